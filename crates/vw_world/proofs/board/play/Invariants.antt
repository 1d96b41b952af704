use Rattle.std.proofs.Common.{drop, length}
use Rattle.vw_world.specs.Boards.{world_of}
use Rattle.vw_world.specs.Worlds.{played}
use Rattle.vw_world.proofs.Rounds.{IsPlaying}
use Rattle.vw_world.proofs.board.play.Given as goal

abbrev pub invariant-loop-node : goal.invariant-loop-node
invariant-loop-node l =
    let goal_world = played l.fn.lanes.job (world_of l.fn.nodes l.fn.lanes) l.events in
    IsPlaying l.fn.lanes.job goal_world (length l.fn.nodes) l.nodes l.lanes (drop l.node-index l.events)
