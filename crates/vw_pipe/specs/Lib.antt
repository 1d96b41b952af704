pub mod Schedules
pub mod Steps
