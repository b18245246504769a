pub mod Slots
pub mod Books
pub mod Offering
pub mod Goes
pub mod Laws
