-- the first broken route is the first of the rest
use Rattle.std.proofs.Common.{◌≡◌, drop}
use Rattle.vw_ready.specs.LeadTables.{planned_in}
use Rattle.vw_net.specs.FirstFound.{first_at}
use Rattle.vw_check.specs.HopFaults.{broken_route, broken_wire}
use Rattle.vw_check.proofs.hops.broken_route.Given as goal

abbrev pub invariant-loop-number : goal.invariant-loop-number
invariant-loop-number l = first_at (broken_wire (planned_in l.wired)) l.number (drop l.number l.wired.plan.now.wires) ≡ broken_route (planned_in l.wired)
