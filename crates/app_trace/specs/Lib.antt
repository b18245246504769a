pub mod Watched
pub mod Captured
pub mod Chosen
pub mod Traced
