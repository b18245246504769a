pub mod Lists
pub mod Soundness
pub mod Readiness
pub mod Readings
