pub mod Shortest
pub mod Steps
