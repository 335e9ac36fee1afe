-- The laws of crate showing, file by file.
pub mod Forms
