use Rattle.vw_flat.proofs.NetsBelow.{finds_once}
use Rattle.vw_flat.proofs.FirstProbes.{all_once}
use Rattle.vw_flat.proofs.laws.probes_find_one_net.Goals as goal

-- a word is cut into so many places and a name in one way
pub returns-clause-one : goal.returns-clause-one
returns-clause-one c = finds_once

pub returns-clause-all : goal.returns-clause-all
returns-clause-all c = all_once
