pub mod Laws
pub mod Adding
pub mod Seated
pub mod Counting
pub mod Together
pub mod TogetherSamples
