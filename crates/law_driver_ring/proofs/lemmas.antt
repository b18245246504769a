pub mod fed_queues
pub mod harvested_streams
pub mod told_harvests
pub mod walk_members
