pub mod Image
pub mod Printing
pub mod Samples
