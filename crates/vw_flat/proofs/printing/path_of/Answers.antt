use Rattle.vw_flat.proofs.Items.{never_placed}
use Rattle.vw_flat.proofs.printing.path_of.Goals as goal

-- a cell is a gate or a latch
pub unreachable-requires : goal.unreachable-requires
unreachable-requires c = never_placed c.args.elaborated.now c.args.cell c.item_at_cell.result.now c.item_at_cell.ensures c.in-Sub.line c.in-Sub.model c.in-Sub.binds c.in-Sub.is
