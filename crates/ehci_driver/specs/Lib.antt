pub mod JobEvents
pub mod Makes
pub mod Rooms
pub mod Standing
pub mod Turns
pub mod Written
