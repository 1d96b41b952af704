-- the least period for the nodes so far
use Rattle.vw_bound.specs.Given.{design_in}
use Rattle.vw_bound.specs.Steps.Rooms.{FitsSoFar}
use Rattle.vw_bound.proofs.rooms.pins_bound.Given as goal

abbrev pub invariant-loop-node : goal.invariant-loop-node
invariant-loop-node l = FitsSoFar (design_in l.placed) l.node l.least
