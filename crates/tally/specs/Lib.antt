-- The link tally: what adding a reply promises, and what a row of replies sums to. Assumes nothing.
pub mod Tally
pub mod Row
