use Rattle.vw_plan.specs.Distance.{distance}
use Rattle.vw_route.specs.Steps.OnTheWay.{IsOnTheWay}
use Rattle.vw_route.proofs.route.walk.Given as goal

-- the walk is under way
abbrev pub invariant-loop-node : goal.invariant-loop-node
invariant-loop-node l = IsOnTheWay l.distances l.from l.to l.node l.nodes.items

-- each step is nearer
abbrev pub decreases-loop-node : goal.decreases-loop-node
decreases-loop-node l = distance l.distances l.node l.to
