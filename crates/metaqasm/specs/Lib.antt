-- The definitions of crate metaqasm, file by file.
pub mod Answers
pub mod TextAnswers
