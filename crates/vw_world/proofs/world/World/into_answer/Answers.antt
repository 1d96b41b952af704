use Rattle.std.proofs.Common.{sym, subst}
use Rattle.vw_world.specs.Seen.{AreAllDone}
use Rattle.vw_world.proofs.FinishedBoards.{finished_board}
use Rattle.vw_world.proofs.world.World.into_answer.Goals as goal

pub answer_of-requires-clause-finished : goal.answer_of-requires-clause-finished
answer_of-requires-clause-finished c =
    finished_board c.self.inside.job.now c.self.inside.nodes.items c.self.inside.lanes c.self.invariant.0 (subst AreAllDone (sym c.self.view_is) c.requires)
