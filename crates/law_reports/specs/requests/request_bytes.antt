pub mod Held
pub mod Fresh
pub mod Samples
