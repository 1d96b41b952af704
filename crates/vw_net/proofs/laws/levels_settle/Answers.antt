use Rattle.vw_net.proofs.Levels.{level_value-past_cells}
use Rattle.vw_net.proofs.laws.levels_settle.Goals as goal

-- every net has one value from one level more than there are gates on, and there are no more gates than cells
pub returns : goal.returns
returns c = λ ordered. level_value-past_cells ordered.flat ordered.order ordered.is_order
