pub mod LeavingSent
pub mod LeaveSamples
pub mod ReportLaws
pub mod ReportSamples
pub mod Sending
pub mod WorldLaws
