pub mod Steps
pub mod CellFaults
pub mod WireFaults
pub mod HopFaults
pub mod MicrocycleFaults
pub mod Faults
pub mod Answers
pub mod Messages
