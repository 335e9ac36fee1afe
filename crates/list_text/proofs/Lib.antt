-- The laws and lemmas of crate list_text, file by file.
pub mod Examples
pub mod Texts
