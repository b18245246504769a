pub mod worlds_keep_to_lent
pub mod owned_blocks
pub mod world_frames
pub mod running_worlds
pub mod framed_memory
pub mod pipe_steps
