-- What a mark says, and what the reader promises. Assumes nothing.
pub mod Marks
pub mod Reader
pub mod Sorts
