pub mod Reaching
pub mod Worked
