pub mod ReportText
pub mod Samples
