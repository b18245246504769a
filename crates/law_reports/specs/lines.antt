pub mod Lined
pub mod TellingLaws
pub mod TellingSteps
pub mod LineSamples
