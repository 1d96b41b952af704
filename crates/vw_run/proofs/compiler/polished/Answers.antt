use Rattle.vw_run.proofs.Fits.{same_room}
use Rattle.vw_run.proofs.compiler.polished.Goals as goal

pub best_plan_for-requires-clause-room : goal.best_plan_for-requires-clause-room
best_plan_for-requires-clause-room c =
    same_room c.chip_of.result.now c.args.plan.chip_of c.args.board.now.cells c.chip_of.ensures c.requires.good.sound.one_chip_each.room
