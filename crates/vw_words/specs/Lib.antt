pub mod FirstWrong
pub mod Forms
pub mod Matched
pub mod Values
pub mod Views
pub mod WordsOfForms
