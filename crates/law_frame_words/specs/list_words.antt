pub mod Spared
pub mod Laws
pub mod Worked
