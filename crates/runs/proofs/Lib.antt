-- The laws and lemmas of crate runs, file by file.
pub mod Reached
pub mod Declarations
pub mod TopActions
pub mod Conclusions
pub mod TopTags
pub mod InstanceRuns
pub mod TopLoop
pub mod TopFields
