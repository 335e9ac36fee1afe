-- The laws and lemmas of crate qasm_text, file by file.
pub mod TextLength
pub mod TextBack
pub mod RecordsBack
pub mod CompleteRuns
pub mod TextSoundness
