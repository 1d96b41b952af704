-- the counts of the first models of the order
use Rattle.vw_instances.proofs.Filling.{IsFilled}
use Rattle.vw_instances.proofs.amounts.counts_of.Given as goal

abbrev pub invariant-loop-number : goal.invariant-loop-number
invariant-loop-number l = IsFilled l.targets.design.now l.order l.measure l.counts.items l.number-index
