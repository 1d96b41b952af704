-- the inlets so far, and the pairs of those that are left
use Rattle.std.proofs.Common.{◌≡◌, ◌++◌, ◌==◌, drop}
use Rattle.std.specs.List.{filter}
use Rattle.vw_plan.specs.declared.need.Need.{Need}
use Rattle.vw_short_bound.specs.Steps.Inlets.{inlet_pairs}
use Rattle.vw_short_bound.proofs.tables.listed.Given as goal

abbrev pub invariant-loop-need : goal.invariant-loop-need
invariant-loop-need l =
    let here = λ (need : Need). need.to == l.node in
    inlet_pairs l.node l.inlets.items ++ filter here (drop l.need-index l.needs) ≡ filter here l.needs
