pub mod Requesting
pub mod Samples
pub mod Recording
pub mod Along
