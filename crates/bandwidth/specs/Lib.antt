pub mod Placements
pub mod Sums
pub mod Admission
pub mod Tables
pub mod Shapes
pub mod Choice
pub mod Worked
