pub mod Counting
pub mod Transfers
pub mod Cancelling
pub mod Line
