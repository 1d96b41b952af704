-- what is kept while gates are gone over
use Rattle.vw_bound.specs.Given.{design_in}
use Rattle.vw_short_bound.proofs.SoonestNets.{IsSoonSoFar}
use Rattle.vw_short_bound.proofs.soonest.soonest.Given as goal

abbrev pub invariant-loop-number : goal.invariant-loop-number
invariant-loop-number l = IsSoonSoFar (design_in l.placed) l.tables l.soon.items l.rows.items
