-- the hops of the wires so far, which are few, and those of the rest
use Rattle.std.proofs.Common.{◌≡◌, ◌<◌, ◌^◌, ◌+◌, drop}
use Rattle.vw_plan.specs.HopCounts.{hop_count}
use Rattle.vw_plan.proofs.plan.Plan.hops.Given as goal

abbrev pub invariant-loop-wire : goal.invariant-loop-wire
invariant-loop-wire l = record {
  so_far : l.count + hop_count (drop l.wire-index l.wire-items) ≡ hop_count l.self.wires;
  few : hop_count l.self.wires < 2 ^ 30;
}
