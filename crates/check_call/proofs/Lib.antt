-- The laws and lemmas of crate check_call, file by file.
pub mod Forms
pub mod Calls
pub mod PassedFamilies
