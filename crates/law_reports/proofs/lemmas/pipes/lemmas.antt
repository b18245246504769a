pub mod high_streams
pub mod puts
pub mod below_hubs
pub mod hub_setups
