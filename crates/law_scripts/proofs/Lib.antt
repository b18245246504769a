pub mod lemmas
pub mod Drafts
pub mod Texts
pub mod Common
