-- the nets so far, and those of the inlets that are left
use Rattle.std.proofs.Common.{◌≡◌, ◌++◌, drop}
use Rattle.vw_short_bound.specs.Steps.Inlets.{inlet_nets}
use Rattle.vw_short_bound.proofs.tables.nets_of.Given as goal

abbrev pub invariant-loop-inlet : goal.invariant-loop-inlet
invariant-loop-inlet l = l.nets.items ++ inlet_nets (drop l.inlet-index l.inlets) ≡ inlet_nets l.inlets
