use Rattle.vw_board.proofs.NotedWalks.{table_push}
use Rattle.vw_board.proofs.distances.Distances.of.Goals as goal

pub loop-to-preserved : goal.loop-to-preserved
loop-to-preserved c =
    rw (c.in_ok-push-2.ensures.items, c.in_ok-push.ensures.items, c.of.ensures, c.of-in-loop-to.ensures) (table_push c.args.board.now c.loop-to.to c.loop-to.distances.items c.loop-to.steps.items c.in_ok-near.near.items c.in_ok-steps_to.field-0.items c.loop-to.invariant c.in_ok-near.ensures c.in_ok-steps_to.ensures)
