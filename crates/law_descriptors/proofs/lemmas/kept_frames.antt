pub mod Both
pub mod Sampled
