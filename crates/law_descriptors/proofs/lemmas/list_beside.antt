pub mod Linking
pub mod Describing
pub mod Running
pub mod Sampled
