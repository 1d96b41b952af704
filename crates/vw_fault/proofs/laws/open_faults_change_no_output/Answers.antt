use Rattle.vw_fault.proofs.Differences.{undetected, same_outputs}
use Rattle.vw_fault.proofs.laws.open_faults_change_no_output.Goals as goal

-- lists differ exactly where they are not the same
pub returns : goal.returns
returns c = λ flat start rows fault. (same_outputs flat start rows fault, undetected flat start rows fault)
