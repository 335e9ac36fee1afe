-- The definitions of crate qasm_print, file by file.
pub mod Prints
