pub mod slots
pub mod repeats
pub mod sitds
