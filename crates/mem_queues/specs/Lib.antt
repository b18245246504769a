pub mod Structures
pub mod Samples
pub mod WriteBack
