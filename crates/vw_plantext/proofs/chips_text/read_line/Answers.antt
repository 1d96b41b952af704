use Rattle.std.proofs.Common.{true, false, arith}
use Rattle.vw_plantext.proofs.LineReads.{answer_is}
use Rattle.vw_plantext.proofs.ChipsLines.{no_numbers, too_many, line_read}
use Rattle.vw_plantext.proofs.chips_text.read_line.Goals as goal

pub returns-then-not-branch : goal.returns-then-not-branch
returns-then-not-branch c = no_numbers c.args.line.now (answer_is _ _ _ c.in_ok-read_numbers.ensures false c.if-not-branch.true)

pub returns-then-cells-from : goal.returns-then-cells-from
returns-then-cells-from c = too_many c.args.line.now _ (answer_is _ _ _ c.in_ok-read_numbers.ensures true c.if-not-branch.false) (omega (arith, c.len-cells.ensures, c.from.ensures, c.if-cells-from.true))

pub returns : goal.returns
returns c =
    line_read c.args.line.now _ c.len-cells.result (answer_is _ _ _ c.in_ok-read_numbers.ensures true c.if-not-branch.false) (omega (arith, c.len-cells.ensures)) (omega (arith, c.from.ensures, c.if-cells-from.false)) c.chips_in.result
    (rw c.deref.ensures.value at c.chips_in.ensures)
