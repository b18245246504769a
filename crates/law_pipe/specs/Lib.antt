pub mod Pipe
pub mod Samples
