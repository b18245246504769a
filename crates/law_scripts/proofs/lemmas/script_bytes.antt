pub mod Statements
pub mod Drafts
pub mod Texts
