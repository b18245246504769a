pub mod Aside
pub mod Elsewhere
