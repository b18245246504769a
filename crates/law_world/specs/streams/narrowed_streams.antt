pub mod Narrowed
pub mod Samples
