-- What functions of this crate compute, step by step. No public clause cites it.
pub mod FaultAnswers
pub mod KeptWords
pub mod Blocks
pub mod Tables
pub mod Ports
pub mod Names
pub mod Readers
