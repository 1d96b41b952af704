use Rattle.vw_fault.proofs.Plain.{plain_outputs}
use Rattle.vw_fault.proofs.laws.nothing_is_stuck.Goals as goal

-- clock by clock, what is found is the value
pub returns : goal.returns
returns c = plain_outputs
