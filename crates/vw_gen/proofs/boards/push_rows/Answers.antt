use Rattle.std.proofs.Common.{◌∙◌, ◌++◌, ℕ, List, ap}
use Rattle.std.specs.List.{range_with_len}
use Rattle.vw_text.specs.Physical.{lines_text}
use Rattle.vw_gen.specs.Board.{row_links}
use Rattle.vw_text.proofs.LineTexts.{lines_text-flat_map}
use Rattle.vw_text.proofs.WrittenPieces.{range_more, range_all}
use Rattle.vw_gen.proofs.boards.push_rows.Goals as goal

pub loop-row-preserved : goal.loop-row-preserved
loop-row-preserved c = range_more (λ (row : ℕ). lines_text (row_links row)) c.loop-row.row 4 c.loop-row.text.items c.push_row.new.text.items _ c.loop-row-test.true c.in_ok-push_row.ensures c.loop-row.invariant

pub returns : goal.returns
returns c =
    range_all (λ (row : ℕ). lines_text (row_links row)) c.loop-row.row 4 c.loop-row.text.items _ c.loop-row-test.false c.loop-row.invariant
    ∙ ap (λ (written : List ℕ). c.args.text.now.items ++ written) (lines_text-flat_map row_links (range_with_len 0 4))
