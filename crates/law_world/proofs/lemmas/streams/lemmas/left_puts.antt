pub mod Leaving
pub mod Others
pub mod Released
pub mod Sampled
