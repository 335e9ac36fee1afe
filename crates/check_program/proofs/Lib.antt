-- The laws and lemmas of crate check_program, file by file.
pub mod Scopes
pub mod Registers
pub mod Families
pub mod TopFields
