pub mod Events
pub mod Rests
