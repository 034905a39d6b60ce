-- What the C entries promise beyond the records of the layers below. Assumes nothing.
pub mod Lent
