pub mod Digits
pub mod WaveParts
pub mod StatedLines
pub mod LinesOfText
pub mod LastGiven
pub mod GivenInWaves
pub mod KnownValues
pub mod Replays
