pub mod Events
pub mod Worlds
pub mod Moments
pub mod Sampled
