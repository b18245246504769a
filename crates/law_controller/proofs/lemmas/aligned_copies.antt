pub mod Reading
pub mod Ringing
pub mod Framing
pub mod Controlling
