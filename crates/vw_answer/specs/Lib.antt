pub mod Latches
pub mod Answers
