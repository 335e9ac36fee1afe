-- The definitions of crate runs, file by file.
pub mod Whole
pub mod Conclusions
pub mod TopFields
