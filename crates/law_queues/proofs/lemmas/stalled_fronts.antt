pub mod Stalled
pub mod Halted
