pub mod Rows
pub mod Answers
pub mod Transfers
pub mod Ready
