pub mod SentLeaving
pub mod LeaveSampled
pub mod Named
pub mod Untold
pub mod ReportSampling
pub mod Commanding
pub mod Each
