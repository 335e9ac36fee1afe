-- The proofs of crate rule_laws, file by file.
pub mod Rules
pub mod Later
pub mod Twice
pub mod Unchanged
pub mod Caught
