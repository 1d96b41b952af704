-- the most of the classes so far
use Rattle.vw_bound.specs.Given.{design_in}
use Rattle.vw_short_bound.specs.Steps.Plans.{IsPressing}
use Rattle.vw_short_bound.proofs.pressing.pressed_at.Given as goal

abbrev pub invariant-loop-class : goal.invariant-loop-class
invariant-loop-class l = IsPressing (design_in l.placed) l.node l.inlets.nets l.row l.most
