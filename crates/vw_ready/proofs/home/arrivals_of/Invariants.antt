-- the arrivals by the wires so far, and by the rest
use Rattle.std.proofs.Common.{◌≡◌, ◌<◌, ◌^◌, ◌++◌, map, drop}
use Rattle.std.specs.List.{All}
use Rattle.vw_plan.specs.Lead.{after_last}
use Rattle.vw_ready.specs.LeadTables.{arrivals_of, planned_in}
use Rattle.vw_ready.proofs.home.arrivals_of.Given as goal

abbrev pub invariant-loop-wire : goal.invariant-loop-wire
invariant-loop-wire l = record {
  are : l.arrivals.items ++ map (λ wire. after_last l.wired.board.now.links wire.hops) (drop l.wire-index l.wired.plan.now.wires) ≡ arrivals_of (planned_in l.wired);
  early : All (λ microcycle. microcycle < 2 ^ 63) l.arrivals.items;
}
