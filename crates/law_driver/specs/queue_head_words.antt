pub mod Fixed
pub mod Overlay
