use Rattle.vw_design.specs.Preorder.{cells}
use Rattle.vw_flat.specs.Printed.{printed_site}
use Rattle.vw_front.proofs.NameLists.{name_more}
use Rattle.vw_front.proofs.names.push_cells.Goals as goal

-- one cell more
pub loop-cell-preserved : goal.loop-cell-preserved
loop-cell-preserved c =
    name_more printed_site (cells c.args.elaborated.now) c.loop-cell.cell c.loop-cell.names.items c.push.new.self.items _ c.in_ok-path_of.field-0
    c.in_ok-path_of.ensures c.in_ok-push.ensures.items c.loop-cell.invariant
