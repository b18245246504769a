pub mod Queues
pub mod Fronts
pub mod Halts
pub mod Running
pub mod Sampled
pub mod SampledHalts
pub mod SampledSplits
