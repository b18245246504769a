pub mod Running
pub mod Following
