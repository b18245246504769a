pub mod Blocks
pub mod Owning
pub mod Homes
pub mod Releasing
pub mod Beside
