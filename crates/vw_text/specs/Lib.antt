pub mod Physical
pub mod Bare
pub mod Logical
pub mod WordLines
pub mod Number
pub mod PlainLines
pub mod Printed
pub mod Reading
