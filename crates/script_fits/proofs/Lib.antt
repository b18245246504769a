pub mod Numbers
pub mod Statements
pub mod Drafts
pub mod Texts
pub mod Opened
