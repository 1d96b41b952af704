pub mod CutAtSpace
pub mod ReadBack
pub mod TraceAsLines
pub mod JoinedTraces
pub mod SavedStates
pub mod KeptStates
pub mod PassedRows
