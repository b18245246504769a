pub mod Lists
pub mod Where
