use Rattle.std.proofs.Common.{true, false}
use Rattle.vw_plantext.proofs.LineReads.{answer_is, chips_line_none, chips_line_read}
use Rattle.vw_plantext.proofs.start.read_chips.Goals as goal

pub returns-then-not-branch : goal.returns-then-not-branch
returns-then-not-branch c = chips_line_none c.args.cells c.args.line.now (answer_is _ _ _ c.in_ok-read_numbers.ensures false c.if-not-branch.true)

pub returns : goal.returns
returns c = chips_line_read c.args.cells c.args.line.now _ (answer_is _ _ _ c.in_ok-read_numbers.ensures true c.if-not-branch.false) c.chips_in.result (rw c.deref.ensures.value at c.chips_in.ensures)
