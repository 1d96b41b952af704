-- What functions of this crate compute, step by step. No public clause cites it.
pub mod SentHops
pub mod Leads
pub mod Turns
pub mod Tasks
pub mod Drafts
pub mod FinishedSchedules
pub mod Underway
pub mod Given
