pub mod AtWork
pub mod Clearing
pub mod HubRequests
pub mod JobOffers
pub mod Jobs
