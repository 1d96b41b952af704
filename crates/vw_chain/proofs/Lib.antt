pub mod GateReads
mod DueEnds
mod Ways
mod BackReady
mod OtherPeriods
