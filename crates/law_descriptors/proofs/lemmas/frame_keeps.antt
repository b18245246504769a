pub mod Keeping
pub mod Backs
pub mod Framing
pub mod Ringing
pub mod Words
pub mod Following
pub mod Sampled
