use Rattle.vw_world.proofs.FirstBoards.{first_board}
use Rattle.vw_world.proofs.world.World.make.Goals as goal

pub invariant_of-result : goal.invariant_of-result
invariant_of-result c =
    ((first_board c.args.job.now c.in_ok-nodes.nodes.items c.in_ok-lanes.lanes c.in_ok-nodes.ensures c.in_ok-lanes.ensures).1, c.in_ok-room.ensures)

pub returns : goal.returns
returns c =
    let is = (first_board c.args.job.now c.in_ok-nodes.nodes.items c.in_ok-lanes.lanes c.in_ok-nodes.ensures c.in_ok-lanes.ensures).0 in
    λ i. record { job = c.args.job.now; state = is i }
