-- The definitions of crate qasm_length, file by file.
pub mod AnyBytes
pub mod Lengths
