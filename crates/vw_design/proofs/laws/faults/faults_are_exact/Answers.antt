use Rattle.vw_design.proofs.FaultLaws.{accepted_fine, fine_accepted, one_fault}
use Rattle.vw_design.proofs.laws.faults.faults_are_exact.Goals as goal

-- by the three kinds of faults: an unknown model, a circle, and the first of the others
pub returns-clause-accepted : goal.returns-clause-accepted
returns-clause-accepted c = accepted_fine

pub returns-clause-faultless : goal.returns-clause-faultless
returns-clause-faultless c = fine_accepted

pub returns-clause-single : goal.returns-clause-single
returns-clause-single c = one_fault
