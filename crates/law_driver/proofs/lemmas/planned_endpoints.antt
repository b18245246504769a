pub mod Lists
pub mod Events
pub mod Commands
pub mod Laws
pub mod Queues
pub mod Due
