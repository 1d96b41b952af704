use Rattle.vw_instances.proofs.OnlyTables.{placed_once, cells_once}
use Rattle.vw_instances.proofs.laws.tables_are_one.Goals as goal

-- no instance is listed twice, and a model has one number
pub returns-clause-instances : goal.returns-clause-instances
returns-clause-instances c = λ design. placed_once design (c.items_are_once.ensures.instances design)

pub returns-clause-cells : goal.returns-clause-cells
returns-clause-cells c = λ design. cells_once design (c.items_are_once.ensures.instances design)
