pub mod Requests
pub mod Rows
pub mod Behind
pub mod Samples
