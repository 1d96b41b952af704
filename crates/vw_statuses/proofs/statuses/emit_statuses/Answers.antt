use Rattle.vw_statuses.proofs.EmitLaws.{emit_table}
use Rattle.vw_statuses.proofs.statuses.emit_statuses.Goals as goal

pub returns : goal.returns
returns c = λ design board by call is. emit_table design board by call c.emitted_boards_show_designs.ensures is
