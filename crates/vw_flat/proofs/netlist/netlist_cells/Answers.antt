use Rattle.std.proofs.Common.{◌<◌, Option, Some, subst, arith}
use Rattle.vw_net.specs.declared.cell.Cell.{Cell}
use Rattle.vw_net.specs.Cells.{IsWellFormed}
use Rattle.vw_design.specs.Flattened.{IsCellOf}
use Rattle.vw_design.specs.Limits.{cell_count}
use Rattle.vw_design.specs.Preorder.{Site, cells}
use Rattle.vw_flat.specs.Steps.Numbers.{net_count, IsCellAt}
use Rattle.vw_flat.proofs.Items.{cell_is}
use Rattle.vw_flat.proofs.LongerLists.{all_more, zip_more}
use Rattle.vw_flat.proofs.netlist.netlist_cells.Goals as goal

-- one cell more
pub loop-cell-preserved : goal.loop-cell-preserved
loop-cell-preserved c =
    let design = c.args.elaborated.now in
    let within : c.loop-cell.cell < cell_count design = omega (arith, c.loop-cell-test.true, c.cells-cell-end.ensures) in
    let is = cell_is design c.loop-cell.cell within in
    let made = c.in_ok-cell_of.field-0 in
    let here : IsCellAt design (Some is.site) made = subst (λ (s : Option Site). IsCellAt design s made) is.at c.in_ok-cell_of.ensures.is in
    record {
      are = zip_more (λ (site : Site) (cell : Cell). IsCellOf design site.path site.item cell) (cells design) c.loop-cell.made.items c.push.new.self.items c.loop-cell.cell is.site made is.at here c.loop-cell.invariant.are c.in_ok-push.ensures.items;
      fit = all_more (IsWellFormed (net_count design)) c.loop-cell.made.items c.push.new.self.items made c.loop-cell.invariant.fit c.in_ok-cell_of.ensures.fits c.in_ok-push.ensures.items;
    }
