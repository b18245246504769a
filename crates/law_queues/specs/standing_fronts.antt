pub mod Along
pub mod Reaching
pub mod Tails
