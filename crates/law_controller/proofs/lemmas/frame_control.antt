pub mod Frameless
pub mod Staying
pub mod Running
pub mod Joining
pub mod Sampled
