pub mod Linking
pub mod Framing
pub mod Beside
pub mod Parting
pub mod Sampled
