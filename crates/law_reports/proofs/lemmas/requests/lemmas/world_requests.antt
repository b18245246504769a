pub mod Turning
pub mod Acting
pub mod Queues
pub mod Begun
pub mod Following
pub mod Telling
pub mod Along
pub mod Sampling
