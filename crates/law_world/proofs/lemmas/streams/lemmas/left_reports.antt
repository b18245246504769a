pub mod Before
pub mod Leaver
pub mod Gone
