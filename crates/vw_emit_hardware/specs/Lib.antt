pub mod Locals
pub mod Names
pub mod Tables
pub mod Items
pub mod Ports
pub mod Run
pub mod Shown
pub mod Driven
