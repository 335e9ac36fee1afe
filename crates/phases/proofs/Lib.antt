-- The laws and lemmas of crate phases, file by file.
pub mod PhaseRuns
