pub mod Keeping
pub mod Rows
pub mod Outs
pub mod Apart
pub mod Linked
pub mod Feeding
pub mod Storing
