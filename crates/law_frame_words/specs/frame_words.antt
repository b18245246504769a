pub mod InWords
pub mod Laws
pub mod Worked
