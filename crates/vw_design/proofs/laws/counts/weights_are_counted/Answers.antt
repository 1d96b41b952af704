use Rattle.vw_design.proofs.Weights.{capped_weight, weight_stays}
use Rattle.vw_design.proofs.laws.counts.weights_are_counted.Goals as goal

-- by the depth: what a model places has a smaller rank
pub returns-clause-counts : goal.returns-clause-counts
returns-clause-counts c = λ design among rank ranking weight cap count. capped_weight design among rank ranking weight cap count

pub returns-clause-depths : goal.returns-clause-depths
returns-clause-depths c = λ design among rank ranking weight. weight_stays design among rank ranking weight
