use Rattle.vw_design.proofs.ReachedFromRoot.{reached_at, reached_closed, reached_least}
use Rattle.vw_design.proofs.laws.models.reached_models.Goals as goal

-- a model that stands deep stands at a path without a round, too, which is listed
pub returns-clause-instances : goal.returns-clause-instances
returns-clause-instances c = reached_at

pub returns-clause-placed : goal.returns-clause-placed
returns-clause-placed c = reached_closed

pub returns-clause-least : goal.returns-clause-least
returns-clause-least c = reached_least
