-- What functions of this crate compute and keep, step by step. No public clause cites it.
pub mod Busy
pub mod Tallies
pub mod Chains
