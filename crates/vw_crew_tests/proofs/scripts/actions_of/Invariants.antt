-- the actions so far
use Rattle.std.proofs.Common.{◌≡◌, [], take}
use Rattle.std.specs.Prelude.{slice_index_or}
use Rattle.vw_crew_tests.proofs.scripts.actions_of.Given as goal

abbrev pub invariant-loop-number : goal.invariant-loop-number
invariant-loop-number l = l.actions.items ≡ take l.number (slice_index_or l.programs.lists l.node [])
