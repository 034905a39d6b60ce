-- The conversion commands of 02, K1: the 13 rows of document 002, a code built, a code taken apart, and how the code's table holds the rows. Assumes nothing.
pub mod Conversions
pub mod Packed
pub mod Flat
