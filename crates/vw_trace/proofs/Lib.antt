pub mod Clocks
pub mod Streaming
pub mod StreamedTexts
pub mod RecordedBatches
pub mod Silence
pub mod MergedTraces
pub mod Triggered
pub mod TriggeredBatches
