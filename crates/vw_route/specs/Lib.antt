pub mod Routes
pub mod Steps
