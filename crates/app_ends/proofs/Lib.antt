pub mod Front
pub mod Endings
