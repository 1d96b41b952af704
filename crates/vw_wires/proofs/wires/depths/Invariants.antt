-- the depths so far, and those of the pairs that are left
use Rattle.std.proofs.Common.{◌≡◌, ◌++◌, drop, map}
use Rattle.vw_plan.specs.Needs.{depth}
use Rattle.vw_wires.proofs.wires.depths.Given as goal

abbrev pub invariant-loop-need : goal.invariant-loop-need
invariant-loop-need l =
    l.depths.items ++ map (λ need. depth l.ordered.flat l.chip_of need.net) (drop l.need-index l.needs)
    ≡ map (λ need. depth l.ordered.flat l.chip_of need.net) l.needs
