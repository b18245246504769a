pub mod Events
pub mod Accepted
pub mod Opened
pub mod Stored
pub mod Offering
