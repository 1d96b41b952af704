use Rattle.vw_design.proofs.Circles.{no_circle}
use Rattle.vw_design.proofs.laws.models.ranked_models.Goals as goal

-- ranks fall along the circle
pub returns : goal.returns
returns c = no_circle
