-- the first late latch is the first of the rest
use Rattle.std.proofs.Common.{◌≡◌, drop}
use Rattle.vw_ready.specs.LeadTables.{planned_in}
use Rattle.vw_net.specs.FirstFound.{first_at}
use Rattle.vw_check.specs.MicrocycleFaults.{late_cell, late_latch}
use Rattle.vw_check.proofs.microcycles.late_latch.Given as goal

abbrev pub invariant-loop-number : goal.invariant-loop-number
invariant-loop-number l = first_at (late_cell (planned_in l.wired)) l.number (drop l.number l.wired.ordered.now.flat.cells) ≡ late_latch (planned_in l.wired)
