-- The laws and lemmas of crate list_words, file by file.
pub mod Examples
pub mod ReadBack
pub mod WordLaws
