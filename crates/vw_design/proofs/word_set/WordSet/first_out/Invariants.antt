-- all so far are in it
use Rattle.std.proofs.Common.{◌≡◌, drop, find, not}
use Rattle.vw_design.specs.WordSets.{has_word}
use Rattle.vw_design.proofs.word_set.WordSet.first_out.Given as goal

abbrev pub invariant-loop-name : goal.invariant-loop-name
invariant-loop-name l = find (λ name. not (has_word l.self.words name)) (drop l.name-index l.names) ≡ find (λ name. not (has_word l.self.words name)) l.names
