pub mod Counting
pub mod Room
pub mod TallyCases
pub mod Total
pub mod Determined
