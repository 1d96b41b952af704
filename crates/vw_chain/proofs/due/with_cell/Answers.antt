use Rattle.std.proofs.Common.{◌∙◌, ◌+◌, Some, length, ap, arith}
use Rattle.vw_net.specs.declared.cell.Cell.TheVariants.{Latch}
use Rattle.vw_net.proofs.FittingCells.{cell_fits}
use Rattle.vw_chain.proofs.due.with_cell.Goals as goal

-- what a latch reads is a net
pub usable-usable-requires : goal.usable-usable-requires
usable-usable-requires c =
    let flat = c.args.timed.now.wired.now.ordered.now.flat in
    (cell_fits (flat.inputs + length flat.cells) flat.cells c.args.number (Latch c.in-Latch.d c.in-Latch.init) flat.cells_fit (c.requires.cell ∙ ap Some c.in-Latch.is)).1 0 0 (omega arith)
