pub mod Order
pub mod Chains
pub mod Stores
pub mod Classes
pub mod Boundary
pub mod Worked
pub mod Laws
