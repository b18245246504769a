pub mod Laid
pub mod Shown
pub mod Windows
pub mod Runs
pub mod Samples
pub mod Resting
pub mod RestSamples
