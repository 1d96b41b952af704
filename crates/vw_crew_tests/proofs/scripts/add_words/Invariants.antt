use Rattle.std.proofs.Common.{◌≡◌, ◌++◌, drop, map}
use Rattle.vw_crew_tests.specs.Slots.{word_in}
use Rattle.vw_crew_tests.proofs.scripts.add_words.Given as goal

abbrev pub invariant-loop-slot : goal.invariant-loop-slot
invariant-loop-slot l = l.words.items ++ map (word_in l.clock l.values) (drop l.slot-index l.slots) ≡ l.initial.words.items ++ map (word_in l.clock l.values) l.slots
