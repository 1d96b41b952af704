pub mod Names
pub mod Outputs
pub mod Firsts
pub mod Claimed
pub mod Sources
pub mod Tables
pub mod Drivers
pub mod Steps
