-- the bytes so far are taken
use Rattle.std.proofs.Common.{◌≡◌, false, take}
use Rattle.vw_rows.specs.Steps.Lines.{GoesOnBy}
use Rattle.vw_rows.proofs.line_so_far.LineSoFar.take_bytes.Given as goal

abbrev pub invariant-loop-at : goal.invariant-loop-at
invariant-loop-at l = record {
  front : GoesOnBy (take l.at l.piece) l.fn.self l.self;
  plain : l.self.commented ≡ false;
}
