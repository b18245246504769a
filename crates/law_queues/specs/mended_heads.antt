pub mod Owed
pub mod Waiting
pub mod Standing
pub mod Stalling
pub mod Mended
pub mod Samples
pub mod Queues
pub mod Streams
