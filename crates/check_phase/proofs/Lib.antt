-- The laws and lemmas of crate check_phase, file by file.
pub mod Naturals
