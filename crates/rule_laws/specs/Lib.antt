-- The laws of crate rule_laws, file by file.
pub mod Later
pub mod Twice
