pub mod Found
pub mod Stuck
pub mod Reached
pub mod Steps
pub mod Text
pub mod Shares
