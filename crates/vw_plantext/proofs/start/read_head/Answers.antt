use Rattle.std.proofs.Common.{true, false}
use Rattle.vw_plantext.proofs.LineReads.{answer_is, head_line_none, head_line_read}
use Rattle.vw_plantext.proofs.start.read_head.Goals as goal

pub returns-then-not-branch : goal.returns-then-not-branch
returns-then-not-branch c = head_line_none c.args.line.now (answer_is _ _ _ c.in_ok-read_numbers.ensures false c.if-not-branch.true)

pub returns : goal.returns
returns c = head_line_read c.args.line.now _ (answer_is _ _ _ c.in_ok-read_numbers.ensures true c.if-not-branch.false) c.head_of.result (rw c.deref.ensures.value at c.head_of.ensures)
