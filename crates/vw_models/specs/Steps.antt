-- What functions of this crate compute, step by step. No public clause cites it.
pub mod PlacedModels
pub mod Formals
pub mod FoundAtPlaced
pub mod Names
pub mod Reach
pub mod Unknown
pub mod ModelGraphs
pub mod ModelNames
