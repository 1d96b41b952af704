use Rattle.vw_board.proofs.OneBoard.{accepted_once}
use Rattle.vw_board.proofs.laws.boards_spell_once.Goals as goal

-- field by field
pub returns : goal.returns
returns c = accepted_once
