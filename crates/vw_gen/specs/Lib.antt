pub mod Draws
pub mod Nets
pub mod Design
pub mod Board
pub mod Stimulus
pub mod Summary
