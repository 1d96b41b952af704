pub mod Chains
pub mod Timing
pub mod Steps
