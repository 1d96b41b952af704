use Rattle.std.proofs.Common.{◌≡◌, max, arith, rules}
use Rattle.vw_bound.specs.Given.{design_in}
use Rattle.vw_bound.proofs.RisingTimes.{all_fit, node_next}
use Rattle.vw_bound.proofs.rooms.pins_bound.Goals as goal

pub loop-node-preserved : goal.loop-node-preserved
loop-node-preserved c =
    let more : c.max-least.result ≡ max c.loop-node.least c.in_ok-node_bound.field-0 = search rules in
    node_next (design_in c.args.placed.now) c.loop-node.node c.loop-node.least c.in_ok-node_bound.field-0 c.max-least.result c.in_ok-node_bound.ensures more c.loop-node.invariant

-- past the last node no pair is needed
pub returns : goal.returns
returns c = all_fit (design_in c.args.placed.now) c.loop-node.node c.loop-node.least c.args.placed.now.chips (omega (arith, c.chips-node-end.ensures, c.loop-node-test.false)) c.loop-node.invariant
