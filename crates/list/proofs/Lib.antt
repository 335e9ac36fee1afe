-- The laws and lemmas of crate list, file by file.
pub mod LentBuffers
