pub mod Leaving
pub mod Released
pub mod Samples
