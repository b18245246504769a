pub mod Footprint
pub mod Changes
pub mod Worked
