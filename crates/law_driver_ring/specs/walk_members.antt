pub mod Reached
pub mod Bell
