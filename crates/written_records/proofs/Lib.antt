-- The laws and lemmas of crate written_records, file by file.
pub mod RecordsBack
pub mod AnyRecords
pub mod Written
