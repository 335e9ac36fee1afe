-- The laws of crate run_laws, file by file.
pub mod Ends
pub mod Frames
