pub mod EmittedBoard
