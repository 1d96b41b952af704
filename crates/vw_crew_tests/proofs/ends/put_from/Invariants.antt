use Rattle.std.proofs.Common.{◌≤◌, ◌-◌, length}
use Rattle.vw_crew_tests.specs.Rounds.{HasPut}
use Rattle.vw_crew_tests.proofs.ends.put_from.Given as goal

abbrev pub invariant-loop-at : goal.invariant-loop-at
invariant-loop-at g l = HasPut (g.E.PutEnd.seen l.initial.end) (g.E.PutEnd.seen l.end) l.at × (l.at ≤ length l.script)

abbrev pub decreases-loop-at : goal.decreases-loop-at
decreases-loop-at g l = length l.script - l.at
