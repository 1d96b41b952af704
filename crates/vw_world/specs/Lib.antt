pub mod Worlds
pub mod Kept
pub mod Able
pub mod Seen
pub mod Lanes
pub mod Boards
