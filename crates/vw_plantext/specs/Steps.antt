-- What the private functions of this crate compute. No public clause cites it.
pub mod Bodies
pub mod Cuts
pub mod Finished
pub mod Hops
pub mod Pieces
pub mod Starts
pub mod Words
pub mod ChipsLines
