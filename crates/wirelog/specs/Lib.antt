-- The wire log (02, K3): records, what the writer gives, what the reader finds, and a walk over a whole log. Assumes nothing.
pub mod Kinds
pub mod Record
pub mod Put
pub mod Found
pub mod Flat
pub mod Walk
pub mod Rows
