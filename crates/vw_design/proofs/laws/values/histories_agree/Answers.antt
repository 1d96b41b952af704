use Rattle.vw_design.proofs.FlatHistories.{histories_agree}
use Rattle.vw_design.proofs.laws.values.histories_agree.Goals as goal

-- clock by clock, since all values agree
pub returns : goal.returns
returns c = histories_agree
