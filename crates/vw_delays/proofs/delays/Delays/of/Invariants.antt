-- the rows so far
use Rattle.vw_delays.specs.Steps.Rows.{RowsSoFar}
use Rattle.vw_delays.proofs.delays.Delays.of.Given as goal

abbrev pub invariant-loop-to : goal.invariant-loop-to
invariant-loop-to l = RowsSoFar l.board l.to l.rows.items
