-- What functions of this crate keep and compute, step by step. No public clause cites it.
pub mod Values
pub mod Tables
pub mod Simulator
