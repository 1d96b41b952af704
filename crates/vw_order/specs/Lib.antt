pub mod Graphs
pub mod Orders
pub mod Circles
pub mod SearchResults
pub mod GateReads
pub mod Loops
pub mod Faults
pub mod Steps
