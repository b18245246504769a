pub mod Plans
pub mod Frames
pub mod Premises
pub mod Worked
pub mod Laws
pub mod hub_plans
