-- The definitions of crate showing, file by file.
pub mod Answers
pub mod Examples
