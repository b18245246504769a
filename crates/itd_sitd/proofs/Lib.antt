pub mod SlotLaws
pub mod ItdLaws
pub mod SitdLaws
