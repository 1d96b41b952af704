pub mod Delays
pub mod Ways
pub mod Steps
