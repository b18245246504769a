pub mod HubPlans
pub mod Laws
pub mod Samples
