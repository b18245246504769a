pub mod Published
pub mod Samples
