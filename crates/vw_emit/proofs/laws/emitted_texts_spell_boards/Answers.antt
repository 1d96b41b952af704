use Rattle.std.proofs.Common.{◌∙◌, map, ap, sym}
use Rattle.vw_blif.specs.Read.{design_of}
use Rattle.vw_blif.specs.Spelled.{spelled_model}
use Rattle.vw_emit_text.specs.Numbered.{emitting, spelled_board}
use Rattle.vw_emit.proofs.BoardDesigns.{a_board}
use Rattle.vw_emit.proofs.PlainBoards.{plain_board}
use Rattle.vw_emit.proofs.PlainModels.{found, same_models, spells_board}
use Rattle.vw_emit.proofs.PrintedText.{text_is}
use Rattle.vw_emit.proofs.SmallBoards.{board_small}
use Rattle.vw_emit.proofs.laws.emitted_texts_spell_boards.Goals as goal

read : goal.returns-clause-spells
read c = λ planned sound fits. ap design_of (text_is planned) ∙ c.printed_designs_read.ensures.otherwise emitting (spelled_board planned) (plain_board planned sound fits.bytes)

pub returns-clause-spells : goal.returns-clause-spells
returns-clause-spells c = read c

pub returns-clause-some : goal.returns-clause-some
returns-clause-some c = λ planned sound fits.
    let is = a_board planned sound fits.bytes in
    (is.0, read c planned sound fits ∙ ap found (sym is.1))

board_is : goal.returns-clause-boards
board_is c = λ planned board sound fits reads.
    spells_board planned board (same_models (map spelled_model board.models) (spelled_board planned) (sym reads ∙ read c planned sound fits))

pub returns-clause-boards : goal.returns-clause-boards
returns-clause-boards c = board_is c

pub returns-clause-small : goal.returns-clause-small
returns-clause-small c = λ planned board sound fits reads. board_small planned sound board (board_is c planned board sound fits reads) fits
