pub mod Work
pub mod Starting
pub mod Working
pub mod Answers
pub mod Worked
