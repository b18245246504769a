pub mod Taking
pub mod Noted
pub mod Written
pub mod Sent
pub mod Opened
