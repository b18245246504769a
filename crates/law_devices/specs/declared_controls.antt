pub mod Laws
pub mod Names
pub mod Opened
pub mod Requests
pub mod Samples
pub mod Zero
