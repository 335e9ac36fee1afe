-- The laws and lemmas of crate text_bytes, file by file.
pub mod DecimalLaws
pub mod Powers
pub mod Pieces
