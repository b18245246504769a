pub mod Telling
pub mod Steps
pub mod Samples
