-- the rest and the set so far are what will be in it
use Rattle.std.proofs.Common.{◌≡◌, ◌||◌, drop}
use Rattle.vw_design.specs.Distinct.{has_name}
use Rattle.vw_design.specs.Paths.{Word}
use Rattle.vw_design.specs.WordSets.{has_word}
use Rattle.vw_design.proofs.word_set.WordSet.add_all.Given as goal

abbrev pub invariant-loop-name : goal.invariant-loop-name
invariant-loop-name l = (other : Word) → has_name (drop l.name-index l.names) other || has_word l.self.words other ≡ has_name l.names other || has_word l.fn.self.words other
