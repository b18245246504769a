pub mod Broken
pub mod GivenBack
pub mod LeftFrames
pub mod LeftQueues
pub mod OwnerRows
pub mod Structures
