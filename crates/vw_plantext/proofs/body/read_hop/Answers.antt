use Rattle.std.proofs.Common.{true, false}
use Rattle.vw_plantext.proofs.LineReads.{answer_is, hop_line_none, hop_line_read}
use Rattle.vw_plantext.proofs.body.read_hop.Goals as goal

pub returns-then-not-branch : goal.returns-then-not-branch
returns-then-not-branch c = hop_line_none c.args.line.now (answer_is _ _ _ c.in_ok-read_numbers.ensures false c.if-not-branch.true)

pub returns : goal.returns
returns c = hop_line_read c.args.line.now _ (answer_is _ _ _ c.in_ok-read_numbers.ensures true c.if-not-branch.false) c.hop_of.result (rw c.deref.ensures.value at c.hop_of.ensures)
