use Rattle.vw_plantext.proofs.OnePlan.{fault_once, spelled_unrefused}
use Rattle.vw_plantext.proofs.laws.plan_text_faults_are_single.Goals as goal

-- by the reasons: the size, the first line that can't stand there
pub returns-clause-single : goal.returns-clause-single
returns-clause-single c = fault_once

pub returns-clause-faultless : goal.returns-clause-faultless
returns-clause-faultless c = spelled_unrefused
