pub mod CellSitesOnce
pub mod Nets
pub mod Columns
pub mod Steps
