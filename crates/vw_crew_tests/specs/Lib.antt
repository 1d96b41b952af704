pub mod Slots
pub mod Rounds
