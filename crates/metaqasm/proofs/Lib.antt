-- The laws and lemmas of crate metaqasm, file by file.
pub mod Places
pub mod AcceptedRuns
pub mod TextRuns
