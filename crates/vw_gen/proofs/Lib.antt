pub mod StatesAfter
pub mod WrittenCells
pub mod WrittenTexts
