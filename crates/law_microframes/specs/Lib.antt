pub mod visits
pub mod time
pub mod due
pub mod plans
pub mod translators
pub mod worked_visits
