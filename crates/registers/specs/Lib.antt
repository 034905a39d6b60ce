-- The state of the devices, and what a good frame does to it, by the kind of its command. Assumes nothing.
pub mod Dten
pub mod State
pub mod Effect
