pub mod MarkLaws
pub mod Sorts
pub mod ReaderLaws
pub mod ReaderNumbers
pub mod ReaderDevices
pub mod Determined
