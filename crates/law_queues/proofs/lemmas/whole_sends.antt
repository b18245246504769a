pub mod Ending
pub mod Walking
pub mod Keeping
pub mod Telling
pub mod Buffers
pub mod Takers
pub mod Sampled
