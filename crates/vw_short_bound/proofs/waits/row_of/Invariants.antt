-- what the row has is waited for
use Rattle.vw_bound.specs.Given.{design_in}
use Rattle.vw_short_bound.specs.Steps.Inlets.{RowWaits}
use Rattle.vw_short_bound.proofs.waits.row_of.Given as goal

abbrev pub invariant-loop-read : goal.invariant-loop-read
invariant-loop-read l = RowWaits (design_in l.placed) l.node l.inlets.nets l.row.items l.ins
