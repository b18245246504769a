pub mod Prefix
pub mod Controller
