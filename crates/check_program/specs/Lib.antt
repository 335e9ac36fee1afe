-- The definitions of crate check_program, file by file.
pub mod Declarations
pub mod Answers
