pub mod frame_control
pub mod frame_stores
pub mod lent_writes
pub mod aligned_copies
pub mod event_places
pub mod lent_reads
pub mod controlled_streams
pub mod controller_writes
