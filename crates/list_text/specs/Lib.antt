-- The definitions of crate list_text, file by file.
pub mod Lines
