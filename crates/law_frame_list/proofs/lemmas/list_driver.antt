pub mod Coming
pub mod Queueing
pub mod Rows
