use Rattle.vw_design.proofs.PlacedInstances.{faultless_listed, faultless_placed}
use Rattle.vw_design.proofs.laws.sites.instances_are_listed.Goals as goal

-- by the length of the path; and what an item of an instance places has a model, which is known
pub returns-clause-listed : goal.returns-clause-listed
returns-clause-listed c = faultless_listed

pub returns-clause-placed : goal.returns-clause-placed
returns-clause-placed c = faultless_placed
