pub mod visit_prices
pub mod frame_budget
pub mod iso_budget
