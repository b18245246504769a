pub mod Unlinks
pub mod Samples
