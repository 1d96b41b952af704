pub mod FurtherFaults
pub mod PortColumns
pub mod ReadTables
pub mod RefusedDesigns
mod OneInstance
