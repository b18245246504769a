pub mod Writes
pub mod Samples
