-- The check word, in the order of 01: the register, the polynomial, the table, a group; then noise on a group, and what the entry promises. Assumes nothing.
pub mod Register
pub mod Polynomial
pub mod Remainders
pub mod Group
pub mod Noise
pub mod Word
