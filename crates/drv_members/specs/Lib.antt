pub mod Ranks
pub mod Members
