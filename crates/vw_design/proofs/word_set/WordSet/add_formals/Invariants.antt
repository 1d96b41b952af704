-- the rest and the set so far are what will be in it
use Rattle.std.proofs.Common.{◌≡◌, ◌||◌, drop, map}
use Rattle.vw_design.specs.Distinct.{has_name}
use Rattle.vw_design.specs.Paths.{Word}
use Rattle.vw_design.specs.WordSets.{has_word}
use Rattle.vw_design.proofs.word_set.WordSet.add_formals.Given as goal

abbrev pub invariant-loop-bind : goal.invariant-loop-bind
invariant-loop-bind l = (other : Word) → has_name (map (λ bind. bind.formal) (drop l.bind-index l.binds)) other || has_word l.self.words other ≡ has_name (map (λ bind. bind.formal) l.binds) other || has_word l.fn.self.words other
