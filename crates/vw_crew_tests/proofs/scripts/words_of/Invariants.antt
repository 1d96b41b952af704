use Rattle.std.proofs.Common.{◌≡◌, length}
use Rattle.vw_prog.specs.Scripts.{script_before, state_at}
use Rattle.vw_crew_tests.proofs.scripts.words_of.Given as goal

abbrev pub invariant-loop-clock : goal.invariant-loop-clock
invariant-loop-clock l = (l.words.items ≡ script_before l.job l.link l.clock) × (l.state ≡ state_at l.job l.clock) × (length l.values ≡ l.nets)
