pub mod Outside
pub mod Cost
pub mod Rules
pub mod Memories
pub mod Acknowledgement
pub mod Limits
