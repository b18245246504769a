pub mod Stages
pub mod Worked
