use Rattle.vw_design.proofs.FlatValues.{levels_agree}
use Rattle.vw_design.proofs.FlatHistories.{values_agree}
use Rattle.vw_design.proofs.laws.values.values_agree.Goals as goal

-- level by level, by the driver of the net
pub returns-clause-levels : goal.returns-clause-levels
returns-clause-levels c = levels_agree

pub returns-clause-values : goal.returns-clause-values
returns-clause-values c = values_agree
