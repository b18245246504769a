pub mod TwoBlocks
pub mod WriteBack
