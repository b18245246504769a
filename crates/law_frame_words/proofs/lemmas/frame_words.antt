pub mod Decoded
pub mod InChains
pub mod Stored
pub mod Half
pub mod Steps
pub mod Begins
pub mod Opening
pub mod Order
