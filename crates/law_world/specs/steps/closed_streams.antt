pub mod Closed
pub mod Several
pub mod Aside
pub mod Left
