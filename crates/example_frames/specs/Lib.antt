pub mod Runs
pub mod Samples
pub mod StreamSamples
