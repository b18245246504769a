pub mod Heard
pub mod Times
pub mod Packets
