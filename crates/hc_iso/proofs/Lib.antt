pub mod Ranges
pub mod Pages
