-- The definitions of crate list_words, file by file.
pub mod Jobs
pub mod Words
