pub mod Linked
pub mod Noted
pub mod Sending
pub mod Described
pub mod Commands
