-- The definitions of crate check_phase, file by file.
pub mod Phases
