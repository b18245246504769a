pub mod Places
pub mod Options
pub mod PlansFit
pub mod Common
