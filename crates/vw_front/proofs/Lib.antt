pub mod MadeOfTexts
pub mod NameLists
pub mod NetlistLoops
pub mod RunningDesigns
pub mod SignalNames
