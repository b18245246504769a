pub mod right_reports
pub mod left_reports
pub mod taken_reports
pub mod put_laws
pub mod left_puts
pub mod sending_worlds
