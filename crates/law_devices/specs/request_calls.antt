pub mod Bus
pub mod Stages
