pub mod Controls
pub mod Beside
pub mod Rows
pub mod Samples
pub mod Queues
