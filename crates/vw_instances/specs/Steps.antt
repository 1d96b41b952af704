-- What functions of this crate keep and compute, step by step. No public clause cites it.
pub mod Counting
pub mod Quantified
pub mod Nexts
pub mod Frames
