-- Frames, in the order of 01: the chain size, kinds, the table of commands, where groups stand, the frame, and what the writer promises. Assumes nothing.
pub mod Size
pub mod Kind
pub mod Commands
pub mod Answers
pub mod Columns
pub mod Places
pub mod Frame
pub mod Writer
