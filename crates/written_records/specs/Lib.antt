-- The definitions of crate written_records, file by file.
pub mod RecordsIn
pub mod AnyBytes
pub mod Written
pub mod ReadExamples
