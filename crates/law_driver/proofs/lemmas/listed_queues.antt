pub mod Commands
pub mod Goes
pub mod Linked
pub mod Opens
pub mod Rows
pub mod Same
