-- The chain: what the entry promises, that each device stands alone, and what a pin does. Assumes nothing.
pub mod Chain
pub mod Alone
pub mod Pins
pub mod Flat
