use Rattle.std.proofs.Common.{◌≡◌, ◌++◌, drop}
use Rattle.vw_crew_tests.specs.Slots.{slots}
use Rattle.vw_crew_tests.proofs.scripts.slots_of.Given as goal

abbrev pub invariant-loop-action : goal.invariant-loop-action
invariant-loop-action l = l.list.items ++ slots l.number (drop l.action-index l.actions) ≡ slots l.number l.actions
