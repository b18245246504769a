pub mod Stores
pub mod Laws
pub mod BothLaws
pub mod PartLaws
pub mod Samples
