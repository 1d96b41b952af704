-- the most of the nodes so far
use Rattle.vw_bound.specs.Given.{design_in}
use Rattle.vw_short_bound.specs.Steps.Inlets.{IsBelowPeriods}
use Rattle.vw_short_bound.proofs.pressing.pressed_nodes.Given as goal

abbrev pub invariant-loop-node : goal.invariant-loop-node
invariant-loop-node l = IsBelowPeriods (design_in l.placed) l.most
