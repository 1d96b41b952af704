-- What the private functions of this crate compute. No public clause cites it.
pub mod NotedPairs
pub mod Nearer
pub mod Tables
pub mod Faults
pub mod Heads
pub mod Links
