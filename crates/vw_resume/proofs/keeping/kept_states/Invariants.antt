-- the texts so far and those of what is left
use Rattle.std.proofs.Common.{◌≡◌, ◌+◌, ◌++◌, drop}
use Rattle.vw_resume.specs.Steps.Kept.{kept_before}
use Rattle.vw_resume.proofs.keeping.kept_states.Given as goal

abbrev pub invariant-loop-i : goal.invariant-loop-i
invariant-loop-i l = l.text.items ++ kept_before l.every (l.first + l.i) (drop l.i l.states) ≡ kept_before l.every l.first l.states
