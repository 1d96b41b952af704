pub mod FlatTraces
pub mod FoundVerbs
pub mod ReplayTexts
pub mod RowChecks
pub mod Runtimes
pub mod TextsOfDesigns
