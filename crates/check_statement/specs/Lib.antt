-- The definitions of crate check_statement, file by file.
pub mod Statements
