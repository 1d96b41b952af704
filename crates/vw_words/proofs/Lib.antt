pub mod WordsOfForms
pub mod ToldApart
pub mod CountedValues
pub mod FirstWrong
pub mod CutAtSlash
