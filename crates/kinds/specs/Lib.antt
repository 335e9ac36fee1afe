-- The definitions of crate kinds, file by file.
pub mod Numbers
