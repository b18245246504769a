pub mod Names
pub mod Lines
pub mod Tellings
pub mod Sampled
