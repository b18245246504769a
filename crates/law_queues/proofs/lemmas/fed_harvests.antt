pub mod Like
pub mod Lists
pub mod Harvests
pub mod Told
pub mod Stalls
