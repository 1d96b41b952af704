-- the tables of the nodes so far
use Rattle.vw_bound.specs.Given.{design_in}
use Rattle.vw_short_bound.specs.Steps.Inlets.{TablesSoFar}
use Rattle.vw_short_bound.proofs.tables.tables_of.Given as goal

abbrev pub invariant-loop-node : goal.invariant-loop-node
invariant-loop-node l = TablesSoFar (design_in l.placed) l.node l.tables.items
