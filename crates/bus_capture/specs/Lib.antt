pub mod Checks
pub mod Packets
pub mod Capture
