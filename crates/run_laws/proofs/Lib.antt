-- The proofs of crate run_laws, file by file.
pub mod Ends
pub mod Events
pub mod Frames
