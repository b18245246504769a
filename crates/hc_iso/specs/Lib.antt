pub mod Itd
pub mod Sitd
pub mod WriteBack
pub mod Samples
