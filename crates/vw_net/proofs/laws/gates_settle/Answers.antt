use Rattle.vw_net.proofs.Levels.{net_value-gate}
use Rattle.vw_net.proofs.laws.gates_settle.Goals as goal

-- a level up, its net has the table's value, and there no value changes
pub returns : goal.returns
returns c = λ ordered. net_value-gate ordered.flat ordered.order ordered.is_order
