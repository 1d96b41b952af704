-- the gates so far have their turns
use Rattle.vw_pipe.proofs.TurnsKept.{HasTurns}
use Rattle.vw_pipe.proofs.turns.nets_by_order.Given as goal

abbrev pub invariant-loop-place : goal.invariant-loop-place
invariant-loop-place l = HasTurns l.given.ordered.now l.place l.turns.items
