pub mod Latches
pub mod Gates
pub mod Values
pub mod KeptGates
pub mod WideGates
pub mod Runs
pub mod LatchNets
pub mod Starts
