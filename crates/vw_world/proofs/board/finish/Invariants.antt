use Rattle.std.proofs.Common.{map}
use Rattle.vw_node.specs.Fits.{state_of}
use Rattle.vw_world.specs.Boards.{lefts, world_of}
use Rattle.vw_world.proofs.Rounds.{IsFinishing}
use Rattle.vw_world.proofs.board.finish.Given as goal

abbrev pub invariant-loop-nodes : goal.invariant-loop-nodes
invariant-loop-nodes l = IsFinishing l.fn.lanes.job (world_of l.fn.nodes l.fn.lanes) l.nodes l.lanes

abbrev pub decreases-loop-nodes : goal.decreases-loop-nodes
decreases-loop-nodes l = lefts l.fn.lanes.job 0 (map state_of l.nodes)
