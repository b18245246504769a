pub mod FreeTail
pub mod Filled
pub mod Frames
pub mod Search
pub mod Words
pub mod Bytes
pub mod ByController
pub mod Holders
