-- what is written, and the rows that are left
use Rattle.std.proofs.Common.{◌≡◌, ◌-◌, ◌++◌}
use Rattle.std.specs.List.{flat_map, range_with_len}
use Rattle.vw_text.specs.Physical.{lines_text}
use Rattle.vw_gen.specs.Board.{row_links}
use Rattle.vw_gen.proofs.boards.push_rows.Given as goal

abbrev pub invariant-loop-row : goal.invariant-loop-row
invariant-loop-row l = l.text.items ++ flat_map (λ row. lines_text (row_links row)) (range_with_len l.row (4 - l.row)) ≡ l.fn.text.items ++ flat_map (λ row. lines_text (row_links row)) (range_with_len 0 4)
