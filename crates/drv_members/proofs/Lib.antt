pub mod Sorted
pub mod Merge
pub mod Ranges
pub mod Classes
pub mod Splits
pub mod Keeping
pub mod Around
