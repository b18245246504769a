pub mod Counting
pub mod Telling
pub mod Taken
pub mod Noting
pub mod Seeding
