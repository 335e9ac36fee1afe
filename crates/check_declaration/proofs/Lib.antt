-- The laws and lemmas of crate check_declaration, file by file.
pub mod Types
pub mod Registers
pub mod Families
pub mod Tables
pub mod Sizes
pub mod Formals
pub mod FamilyTypes
