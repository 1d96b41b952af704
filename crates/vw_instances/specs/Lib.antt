pub mod Quantities
pub mod Sizes
pub mod Tables
pub mod Steps
