pub mod Events
pub mod Streams
pub mod Pipes
pub mod OutPipes
