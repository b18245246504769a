pub mod Visits
pub mod Planning
pub mod Overlay
pub mod Buffer
pub mod Transacting
pub mod WriteBack
pub mod Samples
