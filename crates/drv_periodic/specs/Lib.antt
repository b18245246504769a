pub mod Periodic
pub mod Left
pub mod Tasks
