pub mod Sending
pub mod Requests
pub mod Accepting
pub mod Fresh
