use Rattle.vw_run.proofs.compiler.placement_of.Goals as goal

pub returns-in-Ok-place-clause-room : goal.returns-in-Ok-place-clause-room
returns-in-Ok-place-clause-room c = c.in-Ok-place.ensures.room c.args.board.now.cells c.in-Ok.ensures.room
