use Rattle.vw_models.proofs.OrderedModels.{ordered_no_circle}
use Rattle.vw_models.proofs.laws.ordered_is_no_circle.Goals as goal

-- the places in the order are ranks
pub returns : goal.returns
returns c = ordered_no_circle
