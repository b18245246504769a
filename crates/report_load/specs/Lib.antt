pub mod Summary
pub mod Samples
