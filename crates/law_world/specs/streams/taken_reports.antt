pub mod Seats
pub mod Laws
pub mod Worlds
pub mod Turns
pub mod Samples
