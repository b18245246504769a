pub mod Ranges
pub mod Errors
pub mod Loading
