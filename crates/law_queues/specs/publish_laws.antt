pub mod Publishing
pub mod Stores
