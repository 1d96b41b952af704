use Rattle.vw_route.proofs.FirstSteps.{further, at_end}
use Rattle.vw_route.proofs.route.walk.Goals as goal

pub loop-node-preserved : goal.loop-node-preserved
loop-node-preserved c =
    rw c.in_ok-push-2.ensures.items (further c.args.distances.now c.args.to c.args.from c.loop-node.node c.first_step-node.result c.loop-node.nodes.items c.loop-node.invariant c.first_step-node.ensures)

pub returns : goal.returns
returns c =
    rw c.of.ensures (at_end c.args.distances.now c.args.to c.args.from c.loop-node.node c.loop-node.nodes.items c.requires.to c.loop-node-test.false c.loop-node.invariant)
