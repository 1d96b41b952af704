use Rattle.vw_run.proofs.Fits.{same_room}
use Rattle.vw_run.proofs.compiler.compile_for.Goals as goal

pub best_plan_for-requires-clause-room : goal.best_plan_for-requires-clause-room
best_plan_for-requires-clause-room c = same_room c.as_slice.result.now c.args.chip_of c.args.board.cells c.as_slice.ensures c.requires.room
