pub mod Closing
pub mod Telling
pub mod Turning
pub mod Seating
pub mod Sampling
