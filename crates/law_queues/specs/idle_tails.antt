pub mod Idle
pub mod Worked
