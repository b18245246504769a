pub mod Leading
pub mod Apart
pub mod Linked
pub mod Lent
