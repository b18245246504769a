pub mod Computing
pub mod Falling
pub mod Narrowing
