-- What functions of this crate compute, step by step. No public clause cites it.
pub mod Saying
pub mod Lines
pub mod Scans
pub mod Counting
pub mod Batches
pub mod NextRows
