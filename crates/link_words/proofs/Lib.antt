pub mod Shifts
pub mod Bits
pub mod Tables
pub mod LinkLaws
