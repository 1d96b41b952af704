-- none so far is in it
use Rattle.std.proofs.Common.{◌≡◌, drop, find}
use Rattle.vw_design.specs.WordSets.{has_word}
use Rattle.vw_design.proofs.word_set.WordSet.first_in.Given as goal

abbrev pub invariant-loop-name : goal.invariant-loop-name
invariant-loop-name l = find (has_word l.self.words) (drop l.name-index l.names) ≡ find (has_word l.self.words) l.names
