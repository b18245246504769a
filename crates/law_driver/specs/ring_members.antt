pub mod Words
pub mod Links
pub mod Ring
pub mod Worked
