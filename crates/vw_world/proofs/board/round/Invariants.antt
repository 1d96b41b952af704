use Rattle.vw_world.specs.Boards.{world_of}
use Rattle.vw_world.proofs.Rounds.{IsRound}
use Rattle.vw_world.proofs.board.round.Given as goal

abbrev pub invariant-loop-node : goal.invariant-loop-node
invariant-loop-node l = IsRound l.fn.lanes.job (world_of l.fn.nodes l.fn.lanes) l.nodes l.lanes l.node
