pub mod Events
pub mod Commands
pub mod Budgets
pub mod Refusals
pub mod Cameras
pub mod Common
