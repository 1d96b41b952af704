use Rattle.std.proofs.Common.{◌≤◌, ◌+◌, ◌-◌, length}
use Rattle.vw_crew_tests.specs.Rounds.{HasTaken}
use Rattle.vw_crew_tests.proofs.ends.take_up_to.Given as goal

abbrev pub invariant-loop-end : goal.invariant-loop-end
invariant-loop-end g l = HasTaken (g.E.TakeEnd.seen l.initial.end) (g.E.TakeEnd.seen l.end) (l.from + length l.words.items) × (length l.words.items ≤ l.most)

abbrev pub decreases-loop-end : goal.decreases-loop-end
decreases-loop-end g l = l.most - length l.words.items
