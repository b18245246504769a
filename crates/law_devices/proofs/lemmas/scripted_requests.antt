pub mod Finding
pub mod Asking
pub mod Beginning
