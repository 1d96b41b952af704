pub mod PutBits
pub mod SignalRows
pub mod StreamedWaves
pub mod WaveLeft
pub mod MergedWaves
