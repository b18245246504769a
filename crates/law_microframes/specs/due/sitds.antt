pub mod SitdLaws
pub mod Samples
