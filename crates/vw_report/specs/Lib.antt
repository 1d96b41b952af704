pub mod Waits
pub mod Findings
pub mod Counts
pub mod Report
pub mod Steps
