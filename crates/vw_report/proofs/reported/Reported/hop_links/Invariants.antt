-- what is listed, and the wires that are left
use Rattle.std.proofs.Common.{◌≡◌, ◌++◌, map, drop}
use Rattle.std.specs.List.{flat_map}
use Rattle.vw_plan.specs.Sound.{hops_of}
use Rattle.vw_chain.specs.Timing.{planned_of}
use Rattle.vw_report.specs.Counts.{link_of}
use Rattle.vw_report.proofs.reported.Reported.hop_links.Given as goal

abbrev pub invariant-loop-wire : goal.invariant-loop-wire
invariant-loop-wire l =
    let planned = planned_of l.self.timed.now in
    l.numbers.items ++ map (link_of planned.board.links) (flat_map (λ wire. wire.hops) (drop l.wire-index planned.plan.wires)) ≡ map (link_of planned.board.links) (hops_of planned.plan)
