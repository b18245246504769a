pub mod world_requests
pub mod told_requests
pub mod request_bytes
pub mod driver_requests
pub mod below
