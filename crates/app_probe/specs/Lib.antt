pub mod Silence
pub mod Window
pub mod Probe
