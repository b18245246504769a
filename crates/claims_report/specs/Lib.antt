pub mod Reports
pub mod Streams
pub mod Requests
pub mod Samples
pub mod Acts
pub mod ControlSides
pub mod Controls
