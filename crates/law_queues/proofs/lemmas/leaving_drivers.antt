pub mod Leaving
pub mod Alike
pub mod Never
pub mod Unmet
pub mod Clearing
pub mod Reading
pub mod Owing
pub mod Telling
