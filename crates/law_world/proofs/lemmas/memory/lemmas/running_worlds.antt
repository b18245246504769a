pub mod Errors
pub mod UnrefusedRows
pub mod UnrefusedCommands
pub mod Counting
