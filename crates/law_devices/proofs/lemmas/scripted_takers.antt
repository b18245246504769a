pub mod Taking
pub mod Outs
pub mod Asking
pub mod Beginning
