pub mod Sums
pub mod Visits
pub mod Queues
pub mod Itds
pub mod Joined
pub mod Times
pub mod Written
pub mod Fetched
