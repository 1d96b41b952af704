use Rattle.vw_design.proofs.LoopFree.{gate_value}
use Rattle.vw_design.proofs.laws.values.gates_have_their_values.Goals as goal

-- one level deeper nothing changes
pub returns : goal.returns
returns c = gate_value
