pub mod Host
pub mod Line
pub mod Windows
pub mod Standing
pub mod Samples
pub mod Scripted
