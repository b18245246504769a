pub mod Fronts
pub mod Released
pub mod Staying
