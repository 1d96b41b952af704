pub mod Ready
pub mod Watched
