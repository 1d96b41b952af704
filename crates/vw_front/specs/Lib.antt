pub mod Names
pub mod Designs
pub mod NamedNetlists
pub mod Messages
pub mod Steps
