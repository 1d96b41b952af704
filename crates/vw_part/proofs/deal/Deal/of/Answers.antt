-- there is room for each cell
use Rattle.std.proofs.Common.{◌<◌, ◌*◌, ◌∙◌, ℕ, List, ap, sym, subst, length, arith}
use Rattle.std.proofs.lemmas.List.{length_push}
use Rattle.vw_plan.specs.declared.board.Board.{Board}
use Rattle.vw_part.specs.declared.cell_nets.CellNets.{CellNets}
use Rattle.vw_part.proofs.deal.Deal.of.Goals as goal

pub chip_with_room-chip-requires : goal.chip_with_room-chip-requires
chip_with_room-chip-requires c =
    let chips = length c.loop-cell.deal.chip_of.items in
    let few : chips < c.args.board.now.chips * c.args.board.now.cells = omega (arith, c.cells-cell-end.ensures, c.requires, c.loop-cell.invariant.each) in
    subst (λ (board : Board). chips < board.chips * board.cells) (sym c.loop-cell.invariant.board) few

pub put-requires-clause-next : goal.put-requires-clause-next
put-requires-clause-next c =
    let chips = length c.loop-cell.deal.chip_of.items in
    let few : chips < length c.args.cell_nets.now.of_cells.items = omega (arith, c.cells-cell-end.ensures, c.loop-cell.invariant.each) in
    subst (λ (cell_nets : CellNets). chips < length cell_nets.of_cells.items) (sym c.loop-cell.invariant.nets) few

pub loop-cell-preserved : goal.loop-cell-preserved
loop-cell-preserved c = record {
  board = ap (λ board. board.now) c.in_ok-put.ensures.board ∙ c.loop-cell.invariant.board;
  nets = ap (λ nets. nets.now) c.in_ok-put.ensures.nets ∙ c.loop-cell.invariant.nets;
  each = ap (λ (chips : List ℕ). length chips) c.in_ok-put.ensures.chip_of ∙ length_push c.loop-cell.deal.chip_of.items c.chip_with_room-chip.result ∙ omega (arith, c.loop-cell.invariant.each);
}
