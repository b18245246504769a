pub mod Queues
pub mod Worked
