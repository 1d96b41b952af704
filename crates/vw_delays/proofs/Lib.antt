pub mod LevelDelays
pub mod LeastPaths
pub mod DelayRows
