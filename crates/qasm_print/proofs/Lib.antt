-- The laws and lemmas of crate qasm_print, file by file.
pub mod TwoDigits
pub mod Rows
pub mod Printing
