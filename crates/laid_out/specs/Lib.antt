-- The definitions of crate laid_out, file by file.
pub mod Numbers
