pub mod Refusals
pub mod Messages
pub mod MessageLines
pub mod Steps
pub mod Numbers
