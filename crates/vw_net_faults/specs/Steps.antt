-- What functions of this crate compute, step by step. No public clause cites it.
pub mod Items
pub mod Wanted
pub mod Edges
pub mod Ports
pub mod FreeNames
pub mod SecondClaims
