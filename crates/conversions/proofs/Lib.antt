pub mod ConversionLaws
pub mod ConversionCases
pub mod Undone
pub mod Determined
