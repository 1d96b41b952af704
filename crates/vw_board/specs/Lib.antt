pub mod Words
pub mod Headers
pub mod LinkLines
pub mod Pins
pub mod BoardText
pub mod FirstStep
pub mod Messages
pub mod Steps
