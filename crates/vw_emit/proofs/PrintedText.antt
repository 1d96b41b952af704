-- The text of an emitted board is its models in print.
use Rattle.std.proofs.Common.{◌≡◌, refl}
use Rattle.vw_blif.specs.Printed.{printed_by}
use Rattle.vw_plan.specs.PlannedBoard.{PlannedBoard}
use Rattle.vw_emit_text.specs.Emitted.{emitted_text}
use Rattle.vw_emit_text.specs.Numbered.{emitting, spelled_board}

pub text_is : (planned : PlannedBoard) → emitted_text planned ≡ printed_by emitting (spelled_board planned)
unfolding emitted_text
text_is planned = refl
