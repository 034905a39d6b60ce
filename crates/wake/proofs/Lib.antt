pub mod TrueGap
pub mod WakeCases
pub mod Determined
