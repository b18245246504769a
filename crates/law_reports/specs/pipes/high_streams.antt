pub mod Keeping
pub mod Names
pub mod Opened
pub mod Reports
pub mod Older
pub mod Samples
