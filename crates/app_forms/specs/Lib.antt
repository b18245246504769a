pub mod Form
pub mod Output
pub mod Finished
pub mod Scripts
pub mod Samples
