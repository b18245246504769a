pub mod Framing
pub mod Controlling
