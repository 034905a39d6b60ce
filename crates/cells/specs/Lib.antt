-- The cells of one device: what their reading promises, and what their extremes are. Assumes nothing.
pub mod Cells
pub mod Extremes
pub mod Flat
