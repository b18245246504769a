pub mod Mending
pub mod Owed
pub mod Storing
pub mod Unlinked
