pub mod CellsPassed
pub mod CellsCases
pub mod Outmost
pub mod Ends
pub mod CellEnds
pub mod Determined
pub mod Numbers01
