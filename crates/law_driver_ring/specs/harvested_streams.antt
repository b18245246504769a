pub mod Harvested
