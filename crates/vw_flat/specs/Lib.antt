pub mod Printed
pub mod Probed
pub mod Messages
pub mod Steps
