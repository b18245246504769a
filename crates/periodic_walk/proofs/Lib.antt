pub mod Got
pub mod Causing
pub mod Caused
pub mod Refusals
pub mod Works
pub mod Slots
pub mod Hands
pub mod Whole
