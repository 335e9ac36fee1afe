-- The definitions of crate phases, file by file.
pub mod Phases
