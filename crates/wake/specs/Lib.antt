-- What the wake rule promises. Assumes nothing.
pub mod Wake
pub mod Flat
