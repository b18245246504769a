pub mod Lives
pub mod Samples
