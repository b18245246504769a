pub mod worlds_in_place
pub mod world_bytes
pub mod unlinked_streams
pub mod endpoint_releases
pub mod left_queues
pub mod controlled_walks
pub mod control_queues
pub mod receiving_runs
