pub mod Passing
pub mod Queues
pub mod Sparing
pub mod Standing
pub mod Streams
