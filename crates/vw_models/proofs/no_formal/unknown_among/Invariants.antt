-- all so far are in it
use Rattle.std.proofs.Common.{◌≡◌, drop, find, not}
use Rattle.vw_design.specs.WordSets.{has_word}
use Rattle.vw_models.proofs.no_formal.unknown_among.Given as goal

abbrev pub invariant-loop-bind : goal.invariant-loop-bind
invariant-loop-bind l = find (λ bind. not (has_word l.formals.words bind.formal)) (drop l.bind-index l.binds) ≡ find (λ bind. not (has_word l.formals.words bind.formal)) l.binds
