-- the words so far are those of nets
use Rattle.vw_merge.specs.Words.{AreWords}
use Rattle.vw_merge.proofs.words.worked_out.Given as goal

abbrev pub invariant-loop-place : goal.invariant-loop-place
invariant-loop-place l = AreWords l.ordered.flat l.leaves l.words.items
