pub mod Periodic
pub mod Linking
pub mod Frames
pub mod Descriptors
pub mod Samples
