pub mod Needs
pub mod Causes
pub mod Samples
