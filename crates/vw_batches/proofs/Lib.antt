pub mod JoinedTraffic
pub mod LinkWords
pub mod OtherRecords
pub mod StartedBoards
