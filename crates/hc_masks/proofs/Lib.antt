pub mod Room
pub mod Earlier
