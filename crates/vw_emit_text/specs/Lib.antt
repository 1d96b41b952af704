pub mod Outlets
pub mod Numbered
pub mod Emitted
pub mod Messages
pub mod Steps
