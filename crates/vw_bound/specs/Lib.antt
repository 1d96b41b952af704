pub mod PlacedDesigns
pub mod Times
pub mod Pins
pub mod Bounds
pub mod Given
pub mod Tables
pub mod Steps
