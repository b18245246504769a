pub mod Freeing
pub mod Releasing
