-- What functions of this crate compute, step by step. No public clause cites it.
pub mod Loosely
pub mod Kept
