pub mod Plain
pub mod Differences
pub mod Unreached
pub mod Lanes
pub mod Tables
pub mod RowLanes
pub mod Latches
pub mod Gates
pub mod Values
pub mod Masks
pub mod Groups
pub mod Rounds
pub mod Marks
pub mod Texts
mod Shares
mod ShareCuts
