pub mod Identifiers
pub mod Changes
pub mod Lines
pub mod Statements
pub mod Replay
pub mod Replayed
pub mod Progress
