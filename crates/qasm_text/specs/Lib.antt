-- The definitions of crate qasm_text, file by file.
pub mod Text
pub mod RecordsIn
pub mod TextResult
pub mod TextSound
pub mod TextExamples
