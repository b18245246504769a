pub mod Elsewhere
pub mod Sharing
