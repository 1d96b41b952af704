pub mod ScriptSlots
pub mod LaidEnds
