pub mod Keys
pub mod Asks
pub mod Worked
