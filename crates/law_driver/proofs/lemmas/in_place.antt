pub mod Good
pub mod Rows
pub mod Offers
pub mod Opened
pub mod Laws
pub mod Elsewhere
