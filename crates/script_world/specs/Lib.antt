pub mod Draft
pub mod Ranges
pub mod Rows
pub mod Samples
