pub mod Recorded
pub mod Beneath
