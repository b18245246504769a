pub mod Changed
pub mod Standing
pub mod NewBook
