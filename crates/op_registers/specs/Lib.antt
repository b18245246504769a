pub mod RegisterFile
pub mod Table
pub mod Events
