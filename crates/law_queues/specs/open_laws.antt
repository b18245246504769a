pub mod Accepted
pub mod Opens
pub mod Lends
pub mod Queues
