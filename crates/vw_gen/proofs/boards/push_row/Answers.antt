use Rattle.std.proofs.Common.{◌∙◌, ◌++◌, ℕ, List, ap}
use Rattle.std.specs.List.{range_with_len}
use Rattle.vw_text.specs.Physical.{lines_text}
use Rattle.vw_gen.specs.Board.{chip_links}
use Rattle.vw_text.proofs.LineTexts.{lines_text-flat_map}
use Rattle.vw_text.proofs.WrittenPieces.{range_more, range_all}
use Rattle.vw_gen.proofs.boards.push_row.Goals as goal

pub loop-column-preserved : goal.loop-column-preserved
loop-column-preserved c = range_more (λ (column : ℕ). lines_text (chip_links c.args.row column)) c.loop-column.column 4 c.loop-column.text.items c.push_chip.new.text.items _ c.loop-column-test.true c.in_ok-push_chip.ensures c.loop-column.invariant

pub returns : goal.returns
returns c =
    range_all (λ (column : ℕ). lines_text (chip_links c.args.row column)) c.loop-column.column 4 c.loop-column.text.items _ c.loop-column-test.false c.loop-column.invariant
    ∙ ap (λ (written : List ℕ). c.args.text.now.items ++ written) (lines_text-flat_map (chip_links c.args.row) (range_with_len 0 4))
