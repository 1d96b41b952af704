use Rattle.std.proofs.Common.{◌∙◌, ◌++◌, ℕ, List, ap}
use Rattle.std.specs.List.{range_with_len}
use Rattle.vw_text.specs.Physical.{lines_text}
use Rattle.vw_gen.specs.Design.{cell_lines}
use Rattle.vw_text.proofs.LineTexts.{lines_text-flat_map}
use Rattle.vw_text.proofs.WrittenPieces.{range_more, range_all}
use Rattle.vw_gen.proofs.designs.push_cells.Goals as goal

pub loop-cell-preserved : goal.loop-cell-preserved
loop-cell-preserved c = (
  range_more (λ (cell : ℕ). lines_text (cell_lines c.args.cells cell)) c.loop-cell.cell c.args.cells c.loop-cell.text.items c.push_cell.new.text.items _ c.loop-cell-test.true c.in_ok-push_cell.ensures.text c.loop-cell.invariant.0,
  c.in_ok-push_cell.ensures.draws,
)

pub returns : goal.returns
returns c =
    range_all (λ (cell : ℕ). lines_text (cell_lines c.args.cells cell)) c.loop-cell.cell c.args.cells c.loop-cell.text.items _ c.loop-cell-test.false c.loop-cell.invariant.0
    ∙ ap (λ (written : List ℕ). c.args.text.now.items ++ written) (lines_text-flat_map (cell_lines c.args.cells) (range_with_len 0 c.args.cells))
