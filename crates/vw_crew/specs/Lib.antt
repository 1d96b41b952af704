pub mod Ends
pub mod Groups
pub mod Laying
pub mod Lending
pub mod Parts
pub mod Seen
