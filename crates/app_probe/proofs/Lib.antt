pub mod Making
pub mod Ends
pub mod Windows
