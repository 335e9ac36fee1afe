-- The definitions of crate check_declaration, file by file.
pub mod Types
pub mod Families
pub mod Registers
