pub mod Apart
pub mod Hexes
pub mod Standing
pub mod Ambiguity
pub mod Furthest
