-- the classes so far
use Rattle.std.specs.List.{All}
use Rattle.vw_bound.specs.Given.{design_in}
use Rattle.vw_short_bound.specs.Steps.Inlets.{IsClassOf}
use Rattle.vw_short_bound.proofs.classes.classes_of.Given as goal

abbrev pub invariant-loop-source : goal.invariant-loop-source
invariant-loop-source l = All (IsClassOf (design_in l.placed) l.node l.nets) l.classes.items
