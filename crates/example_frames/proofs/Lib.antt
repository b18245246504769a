pub mod Going
pub mod Sampled
pub mod StreamSampled
