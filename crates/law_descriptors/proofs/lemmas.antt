pub mod frame_keeps
pub mod kept_frames
pub mod queue_events
pub mod descriptor_links
pub mod list_beside
