-- the numbers so far are counted
use Rattle.vw_report.proofs.Tallies.{AreTalliesSoFar}
use Rattle.vw_report.proofs.tally.tallies.Given as goal

abbrev pub invariant-loop-number : goal.invariant-loop-number
invariant-loop-number l = AreTalliesSoFar l.fn.numbers.items l.fn.limit l.number-index l.counts.items
