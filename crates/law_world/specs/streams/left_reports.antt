pub mod Leaver
pub mod Samples
