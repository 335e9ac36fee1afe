-- The laws and lemmas of crate forms, file by file.
pub mod Lists
pub mod Laws
pub mod Verdicts
pub mod Products
