pub mod SameLists
pub mod LatchRows
pub mod DoneNodes
