-- The laws and lemmas of crate check_index, file by file.
pub mod Answers
pub mod Forms
pub mod TwoBounds
