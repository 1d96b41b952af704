-- what is written, and the columns that are left
use Rattle.std.proofs.Common.{◌≡◌, ◌-◌, ◌++◌}
use Rattle.std.specs.List.{flat_map, range_with_len}
use Rattle.vw_text.specs.Physical.{lines_text}
use Rattle.vw_gen.specs.Board.{chip_links}
use Rattle.vw_gen.proofs.boards.push_row.Given as goal

abbrev pub invariant-loop-column : goal.invariant-loop-column
invariant-loop-column l = l.text.items ++ flat_map (λ column. lines_text (chip_links l.row column)) (range_with_len l.column (4 - l.column)) ≡ l.fn.text.items ++ flat_map (λ column. lines_text (chip_links l.row column)) (range_with_len 0 4)
