use Rattle.std.proofs.Common.{sym, ◌∙◌, ne_eqb, eq-eqb}
use Rattle.vw_fault.proofs.Lanes.{lane_none, lane_ones}
use Rattle.vw_fault.proofs.Tables.{lowest}
use Rattle.vw_fault.proofs.table.of_none.Goals as goal

-- the table's lowest bit is whether it is odd
pub returns-then-table-eq1 : goal.returns-then-table-eq1
returns-then-table-eq1 c = λ lane low. lane_ones lane low ∙ sym (lowest c.args.table ∙ eq-eqb _ _ c.if-table-eq1.true)

pub returns-else-table-eq1 : goal.returns-else-table-eq1
returns-else-table-eq1 c = λ lane low. lane_none lane ∙ sym (lowest c.args.table ∙ ne_eqb _ _ c.if-table-eq1.false)
