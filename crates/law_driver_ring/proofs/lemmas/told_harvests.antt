pub mod Holding
pub mod Passing
pub mod Reading
pub mod Done
pub mod Noting
pub mod Keeping
