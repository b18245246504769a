mod HubWork
mod Effects
mod Acks
pub mod Microframe
