pub mod Same
pub mod Structures
pub mod Ringing
pub mod Framing
pub mod Controlling
