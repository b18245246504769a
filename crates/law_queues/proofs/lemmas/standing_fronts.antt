pub mod Walking
pub mod Lists
pub mod Harvested
pub mod Rows
pub mod Alike
pub mod Reaching
pub mod Returning
