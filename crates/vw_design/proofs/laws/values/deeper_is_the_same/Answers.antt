use Rattle.vw_design.proofs.LoopFree.{level_settles}
use Rattle.vw_design.proofs.laws.values.deeper_is_the_same.Goals as goal

-- gates that lead to each other differ, and there are no more of them than cells
pub returns : goal.returns
returns c = level_settles
