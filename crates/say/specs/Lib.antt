-- What a digit is, and what is printed of bytes and of a number. Assumes nothing.
pub mod Digits
pub mod Text
