pub mod FrameFronts
pub mod Samples
