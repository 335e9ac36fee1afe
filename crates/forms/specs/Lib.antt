-- The definitions of crate forms, file by file.
pub mod Flat
pub mod Rows
pub mod Products
pub mod Ranges
