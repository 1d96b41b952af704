use Rattle.vw_resume.proofs.ReadBack.{fault_once, spelled_unrefused}
use Rattle.vw_resume.proofs.laws.state_faults_are_single.Goals as goal

pub returns-clause-single : goal.returns-clause-single
returns-clause-single c = fault_once

pub returns-clause-faultless : goal.returns-clause-faultless
returns-clause-faultless c = spelled_unrefused
