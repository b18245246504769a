pub mod Fields
pub mod Spelled
pub mod Passing
pub mod Paged
