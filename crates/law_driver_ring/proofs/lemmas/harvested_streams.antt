pub mod Harvesting
