use Rattle.vw_bound.specs.Given.{design_in}
use Rattle.vw_short_bound.proofs.NodeInlets.{tables_next}
use Rattle.vw_short_bound.proofs.tables.tables_of.Goals as goal

pub loop-node-preserved : goal.loop-node-preserved
loop-node-preserved c = rw c.in_ok-push.ensures.items (tables_next (design_in c.args.placed.now) c.loop-node.node c.loop-node.tables.items c.in_ok-inlets_at.field-0 c.in_ok-inlets_at.ensures c.loop-node.invariant)
