-- The definitions of crate text_bytes, file by file.
pub mod Decimal
pub mod Buffers
