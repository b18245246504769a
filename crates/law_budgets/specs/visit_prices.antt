pub mod Prices
pub mod Spent
pub mod Time
pub mod Fetched
