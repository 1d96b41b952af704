pub mod Shortest
pub mod Compiled
pub mod GivenChips
pub mod Messages
