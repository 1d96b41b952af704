-- the first wire that is sent too early is the first of the rest
use Rattle.std.proofs.Common.{◌≡◌, drop}
use Rattle.vw_ready.specs.LeadTables.{planned_in}
use Rattle.vw_net.specs.FirstFound.{first_at}
use Rattle.vw_check.specs.MicrocycleFaults.{early_wire, too_early}
use Rattle.vw_check.proofs.microcycles.too_early.Given as goal

abbrev pub invariant-loop-number : goal.invariant-loop-number
invariant-loop-number l = first_at (early_wire (planned_in l.wired)) l.number (drop l.number l.wired.plan.now.wires) ≡ too_early (planned_in l.wired)
