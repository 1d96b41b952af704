pub mod Fronts
pub mod PiecesWritten
pub mod FaultCounts
pub mod TextsTold
