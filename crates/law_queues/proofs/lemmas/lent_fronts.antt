pub mod Parts
pub mod Fronts
pub mod Rising
pub mod Extents
pub mod Tails
pub mod Row
