pub mod Lists
pub mod Allowed
pub mod Parsing
pub mod Packets
pub mod Answered
pub mod Steps
pub mod Streams
