-- Demands 2 and 3: any rig, one frame with its noise, what happens, what is promised, the demands; what follows for a run, and for the code. Assumes nothing.
pub mod Rig
pub mod Sending
pub mod Step
pub mod Promise
pub mod Demands
pub mod Story
pub mod Unmeasured
pub mod Carry
