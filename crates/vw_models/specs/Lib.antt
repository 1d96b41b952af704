pub mod PlacedFaults
pub mod ModelOrders
pub mod TargetsOnce
pub mod Steps
