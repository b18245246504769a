pub mod Breaking
pub mod GivenBack
pub mod LeftFrames
pub mod LeftQueues
pub mod Owning
pub mod OwningBytes
pub mod Reading
