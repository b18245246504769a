pub mod Lists
pub mod Devices
pub mod Hubs
pub mod Buses
