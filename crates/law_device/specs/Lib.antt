pub mod Halves
pub mod Acts
