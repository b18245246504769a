pub mod Walk
pub mod Naks
pub mod Rows
pub mod Causes
pub mod Samples
pub mod Parts
