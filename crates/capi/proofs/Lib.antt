pub mod Determined
pub mod Results
