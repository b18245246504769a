pub mod Held
pub mod Passed
pub mod Laws
pub mod Samples
