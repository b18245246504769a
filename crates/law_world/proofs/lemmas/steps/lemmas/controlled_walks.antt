pub mod Framing
pub mod Controlling
pub mod Offering
pub mod Worlds
