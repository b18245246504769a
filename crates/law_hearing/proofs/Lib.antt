pub mod Asked
pub mod Heard
pub mod HeardBelow
pub mod Determined
pub mod Samples
