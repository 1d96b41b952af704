-- the delays of the nodes so far
use Rattle.std.proofs.Common.{◌+◌}
use Rattle.vw_delays.specs.Steps.Rows.{DelaysSoFar}
use Rattle.vw_delays.proofs.rows.next_row.Given as goal

abbrev pub invariant-loop-from : goal.invariant-loop-from
invariant-loop-from l = DelaysSoFar l.links (l.limit + 1) l.to l.from l.next.items
