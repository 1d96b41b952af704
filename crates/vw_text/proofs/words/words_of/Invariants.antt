-- The words so far, and then those of the rest.
use Rattle.std.proofs.Common.{◌≡◌, ◌++◌, length}
use Rattle.vw_text.specs.WordLines.{words_of}
use Rattle.vw_text.proofs.words.words_of.Given as goal

abbrev pub invariant-loop-rest : goal.invariant-loop-rest
invariant-loop-rest l = l.words.items ++ words_of l.rest ≡ words_of l.line

abbrev pub decreases-loop-rest : goal.decreases-loop-rest
decreases-loop-rest l = length l.rest
