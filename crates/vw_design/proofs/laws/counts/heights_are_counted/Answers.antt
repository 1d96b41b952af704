use Rattle.vw_design.proofs.Weights.{heights}
use Rattle.vw_design.proofs.laws.counts.heights_are_counted.Goals as goal

-- by the depth: what a model places has a smaller rank
pub returns : goal.returns
returns c = λ design among rank ranking height. heights design among rank ranking height
