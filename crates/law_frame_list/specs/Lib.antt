pub mod list_closed
pub mod list_stores
pub mod list_steps
pub mod list_driver
pub mod list_aside
pub mod list_commands
pub mod list_opens
pub mod list_queued
