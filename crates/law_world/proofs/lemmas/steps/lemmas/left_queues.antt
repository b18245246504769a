pub mod Unmet
pub mod Same
pub mod Clearing
pub mod Returned
pub mod Samples
