pub mod Places
pub mod Apart
pub mod Works
pub mod Heard
pub mod Hearing
