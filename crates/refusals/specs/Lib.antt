-- The definitions of crate refusals.
pub mod Reasons
