-- The definitions of crate form_laws, file by file.
pub mod Equal
pub mod Settled
pub mod Trials
pub mod Computed
pub mod Settlings
pub mod Tried
