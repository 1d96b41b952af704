pub mod Same
pub mod Words
pub mod Tables
pub mod Merging
