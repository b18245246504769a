pub mod Ports
pub mod Ready
pub mod Samples
