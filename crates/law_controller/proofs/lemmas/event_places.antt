pub mod Writing
pub mod Ringing
pub mod Framing
pub mod Controlling
