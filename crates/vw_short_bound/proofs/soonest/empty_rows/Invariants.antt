-- the rows so far
use Rattle.vw_short_bound.specs.Steps.Inlets.{AreEmpty}
use Rattle.vw_short_bound.proofs.soonest.empty_rows.Given as goal

abbrev pub invariant-loop : goal.invariant-loop
invariant-loop l = AreEmpty l.counter l.rows.items
