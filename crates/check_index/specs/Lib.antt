-- The definitions of crate check_index, file by file.
pub mod Answers
pub mod Bounds
pub mod Indexes
