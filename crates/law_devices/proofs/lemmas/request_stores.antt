pub mod Keeping
pub mod Storing
pub mod Publishing
pub mod Asking
pub mod Waiting
