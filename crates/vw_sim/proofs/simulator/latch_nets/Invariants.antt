-- the nets so far, and those that are left
use Rattle.std.proofs.Common.{◌≡◌, ◌+◌, ◌++◌, drop}
use Rattle.vw_sim.specs.Steps.Simulator.{latch_nets}
use Rattle.vw_sim.proofs.simulator.latch_nets.Given as goal

abbrev pub invariant-loop-number : goal.invariant-loop-number
invariant-loop-number l = l.nets.items ++ latch_nets (l.first + l.number) (drop l.number l.cell-items) ≡ latch_nets l.first l.cell-items
