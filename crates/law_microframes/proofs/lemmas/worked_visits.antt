pub mod CoverSampled
pub mod DueSampled
pub mod Sampled
pub mod WereSampled
