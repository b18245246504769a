pub mod Closed
pub mod Worked
