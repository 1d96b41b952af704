-- the nets so far, and those that are left
use Rattle.std.proofs.Common.{◌≡◌, ◌++◌, drop}
use Rattle.vw_net.specs.Cells.{latch_inputs}
use Rattle.vw_sim.proofs.simulator.taken_nets.Given as goal

abbrev pub invariant-loop-cell : goal.invariant-loop-cell
invariant-loop-cell l = l.nets.items ++ latch_inputs (drop l.cell-index l.cell-items) ≡ latch_inputs l.cell-items
