-- The laws and lemmas of crate check_statement, file by file.
pub mod Loops
pub mod Statements
pub mod Actions
