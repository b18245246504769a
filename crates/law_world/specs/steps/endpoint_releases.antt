pub mod Released
pub mod Beside
pub mod Samples
