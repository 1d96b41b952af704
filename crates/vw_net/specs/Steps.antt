-- What functions of this crate compute, step by step, and helpers that lemmas of several crates share. No public clause cites it.
pub mod Bits
pub mod MatchedPlaces
pub mod Masks
pub mod WrittenBits
