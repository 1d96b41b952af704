-- the tables so far carry the values
use Rattle.vw_merge.specs.Merging.{IsMerging}
use Rattle.vw_merge.proofs.merge.merge_gates.Given as goal

abbrev pub invariant-loop-number : goal.invariant-loop-number
invariant-loop-number l = IsMerging l.ordered.flat l.merging
