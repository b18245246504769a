pub mod Answers
pub mod Contents
pub mod Rows
pub mod Work
pub mod Worked
