pub mod Queued
pub mod Rows
pub mod Commands
pub mod CommandsWorked
