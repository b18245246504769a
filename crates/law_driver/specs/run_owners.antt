pub mod Owners
pub mod Due
pub mod Accepts
pub mod Kept
pub mod Worked
