-- the arrivals so far are no later, and the wire is one of theirs
use Rattle.std.proofs.Common.{◌≤◌, ◌<◌, ℕ, get_or}
use Rattle.vw_chain.specs.Steps.{EndsSo}
use Rattle.vw_chain.specs.Timing.{planned_of}
use Rattle.vw_chain.proofs.due.last_wire.Given as goal

abbrev pub invariant-loop-number : goal.invariant-loop-number
invariant-loop-number l = record {
  ends : EndsSo (planned_of l.timed) l.due.last l.due.end;
  past : (place : ℕ) → place < l.number → get_or l.timed.arrivals.now place 0 ≤ l.due.last;
}
