use Rattle.std.proofs.Common.{◌∙◌}
use Rattle.vw_run.proofs.Fits.{same_room}
use Rattle.vw_run.proofs.compiler.best_plan_for.Goals as goal

pub plan_for-requires-clause-room : goal.plan_for-requires-clause-room
plan_for-requires-clause-room c =
    same_room c.of-chips.result c.args.chip_of.now c.args.board.now.cells (c.of-chips.ensures ∙ c.in_ok-to_vec.ensures.items_if_clones_equal (λ x y is. is)) c.requires.room

pub plan_for-requires-in-loop-way-clause-room : goal.plan_for-requires-in-loop-way-clause-room
plan_for-requires-in-loop-way-clause-room c =
    same_room c.of-chips-in-loop-way.result c.args.chip_of.now c.args.board.now.cells
    (c.of-chips-in-loop-way.ensures ∙ c.in_ok-to_vec-2.ensures.items_if_clones_equal (λ x y is. is)) c.requires.room
