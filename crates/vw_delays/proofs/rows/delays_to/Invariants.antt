-- the delays up to this limit
use Rattle.std.proofs.Common.{◌+◌}
use Rattle.vw_delays.specs.Steps.Rows.{DelaysSoFar}
use Rattle.vw_delays.proofs.rows.delays_to.Given as goal

abbrev pub invariant-loop-limit : goal.invariant-loop-limit
invariant-loop-limit l = DelaysSoFar l.board.links l.limit l.to (l.board.chips + 1) l.row.items
