-- The computed examples of crate further_examples, file by file.
pub mod Orders
pub mod Libraries
