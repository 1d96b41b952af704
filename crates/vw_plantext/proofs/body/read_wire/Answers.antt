use Rattle.std.proofs.Common.{true, false}
use Rattle.vw_plantext.proofs.LineReads.{answer_is, wire_line_none, wire_line_read}
use Rattle.vw_plantext.proofs.body.read_wire.Goals as goal

pub returns-then-not-branch : goal.returns-then-not-branch
returns-then-not-branch c = wire_line_none c.args.room c.args.line.now c.ranges.room.fits (answer_is _ _ _ c.in_ok-read_numbers.ensures false c.if-not-branch.true)

pub returns : goal.returns
returns c = wire_line_read c.args.room c.args.line.now _ c.ranges.room.fits (answer_is _ _ _ c.in_ok-read_numbers.ensures true c.if-not-branch.false) c.wire_of.result (rw c.deref.ensures.value at c.wire_of.ensures)
