-- What functions of this crate compute, step by step. No public clause cites it.
pub mod Rows
pub mod Plans
pub mod Pressed
pub mod Inlets
