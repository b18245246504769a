pub mod Ranges
pub mod Which
pub mod Tails
pub mod Extending
