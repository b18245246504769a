pub mod Counted
pub mod Making
pub mod Storing
pub mod Worked
pub mod Turns
