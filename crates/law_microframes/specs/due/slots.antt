pub mod SlotLaws
pub mod Samples
