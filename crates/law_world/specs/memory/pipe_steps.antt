pub mod Pipes
pub mod Laws
pub mod Events
pub mod Samples
