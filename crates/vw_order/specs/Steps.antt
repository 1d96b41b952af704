-- What functions of this crate compute, step by step. No public clause cites it.
pub mod SearchProgress
pub mod Rounds
pub mod Searches
pub mod GateOrders
pub mod Gates
