-- the words so far are those of leaves
use Rattle.vw_net.specs.declared.flat.Flat.{Flat}
use Rattle.vw_merge.specs.Words.{AreWords}
use Rattle.vw_merge.proofs.words.put_leaves.Given as goal

abbrev pub invariant-loop-i : goal.invariant-loop-i
invariant-loop-i l = (flat : Flat) → AreWords flat l.leaves l.words.items
