-- How statements speak of lent bytes, of refusals and of words. Assumes nothing.
pub mod Bytes
pub mod LowFirst
pub mod Memory
pub mod Number
pub mod Refusal
pub mod Word
