-- The laws and lemmas of crate laid_out, file by file.
pub mod RegisterSums
pub mod WireSums
pub mod InstanceWires
