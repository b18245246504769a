pub mod Fronts
pub mod Controlling
