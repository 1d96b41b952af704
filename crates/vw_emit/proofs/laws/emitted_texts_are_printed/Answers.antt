use Rattle.vw_emit_names.specs.Boards.{board_models}
use Rattle.vw_emit.proofs.PlainModels.{models_back, spells_board}
use Rattle.vw_emit.proofs.PrintedText.{text_is}
use Rattle.vw_emit.proofs.laws.emitted_texts_are_printed.Goals as goal

pub returns-clause-printed : goal.returns-clause-printed
returns-clause-printed c = λ planned sound. text_is planned

pub returns-clause-models : goal.returns-clause-models
returns-clause-models c = λ planned. models_back 1 (board_models planned)

pub returns-clause-boards : goal.returns-clause-boards
returns-clause-boards c = spells_board
