-- what is listed so far, and the crossing ones of the nets that are left
use Rattle.std.proofs.Common.{◌≡◌, ◌++◌, drop}
use Rattle.vw_wires.specs.Steps.Crossings.{crossing_nets}
use Rattle.vw_wires.proofs.crossing.list_nets.Given as goal

abbrev pub invariant-loop-net : goal.invariant-loop-net
invariant-loop-net l =
    l.needs.items ++ crossing_nets l.flat l.chip_of l.node (drop l.net-index l.nets)
    ≡ l.initial.needs.items ++ crossing_nets l.flat l.chip_of l.node l.nets
