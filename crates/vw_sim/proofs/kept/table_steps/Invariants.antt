-- the gates so far, and those that are left
use Rattle.std.proofs.Common.{◌≡◌, ◌++◌, drop}
use Rattle.vw_sim.specs.Steps.Tables.{table_steps}
use Rattle.vw_sim.proofs.kept.table_steps.Given as goal

abbrev pub invariant-loop-number : goal.invariant-loop-number
invariant-loop-number g l = l.steps.items ++ table_steps g.row.N l.first l.cells (drop l.number-index l.number-items) ≡ table_steps g.row.N l.first l.cells l.number-items
