pub mod Findings
pub mod Tracking
