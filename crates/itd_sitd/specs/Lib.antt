pub mod Slot
pub mod Itd
pub mod Sitd
