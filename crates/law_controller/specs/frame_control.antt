pub mod Both
pub mod Joined
pub mod Samples
