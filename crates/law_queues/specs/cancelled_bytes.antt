pub mod Cancelled
pub mod Samples
