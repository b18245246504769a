pub mod Onward
pub mod OnwardLaws
pub mod Samples
