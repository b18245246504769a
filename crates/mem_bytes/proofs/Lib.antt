pub mod WordBytes
pub mod Stores
pub mod Reach
pub mod Loads
pub mod WholeBlocks
pub mod Frames
