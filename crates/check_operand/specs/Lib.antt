-- The definitions of crate check_operand, file by file.
pub mod Operands
pub mod Tables
pub mod Scopes
