-- The laws and lemmas of crate qasm_length, file by file.
pub mod Records
pub mod Parts
