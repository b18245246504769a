pub mod Chained
pub mod Closing
pub mod Structures
