pub mod Lists
pub mod Freed
pub mod Moved
