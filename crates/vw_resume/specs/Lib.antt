pub mod States
pub mod Messages
pub mod Resumed
pub mod Saved
pub mod Joined
pub mod Steps
