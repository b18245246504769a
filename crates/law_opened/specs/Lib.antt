pub mod Declared
pub mod Opened
pub mod Samples
