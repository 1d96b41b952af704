pub mod Spelled
pub mod Boards
pub mod Shows
