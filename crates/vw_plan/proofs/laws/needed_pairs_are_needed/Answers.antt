use Rattle.vw_plan.proofs.NeededPairs.{any-needed_pairs, count-needed_pairs, needed_pairs-rise}
use Rattle.vw_plan.proofs.laws.needed_pairs_are_needed.Goals as goal

-- net by net, and in each node by node: none is needed past the last net or past the greatest chip
pub returns : goal.returns
returns c = record { listed = any-needed_pairs; once = count-needed_pairs; rising = needed_pairs-rise }
