pub mod Turning
pub mod Hearing
