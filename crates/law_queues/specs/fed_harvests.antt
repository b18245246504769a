pub mod Harvests
pub mod Stalls
