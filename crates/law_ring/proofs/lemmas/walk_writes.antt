pub mod Lent
pub mod Walking
