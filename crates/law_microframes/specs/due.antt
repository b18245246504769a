pub mod Laws
pub mod Samples
pub mod slots
pub mod repeats
pub mod sitds
