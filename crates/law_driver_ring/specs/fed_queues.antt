pub mod Fed
pub mod Places
pub mod Worked
