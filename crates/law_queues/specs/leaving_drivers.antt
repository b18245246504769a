pub mod Owed
pub mod Told
pub mod Before
pub mod Worked
