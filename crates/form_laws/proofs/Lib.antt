-- The laws of crate form_laws, file by file.
pub mod Equal
pub mod Settled
pub mod Scoped
pub mod Trials
