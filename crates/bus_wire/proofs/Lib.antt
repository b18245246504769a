pub mod Search
pub mod Table
pub mod Unheard
pub mod Hubs
pub mod Sent
