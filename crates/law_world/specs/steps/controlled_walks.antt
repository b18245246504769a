pub mod Walks
pub mod Worlds
pub mod Worked
