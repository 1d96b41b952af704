-- what is written, the cells that are left, and the state
use Rattle.std.proofs.Common.{◌≡◌, ◌-◌, ◌++◌}
use Rattle.std.specs.List.{flat_map, range_with_len}
use Rattle.vw_text.specs.Physical.{lines_text}
use Rattle.vw_gen.specs.Draws.{drawn_state}
use Rattle.vw_gen.specs.Design.{draws_before, cell_lines}
use Rattle.vw_gen.proofs.designs.push_cells.Given as goal

abbrev pub invariant-loop-cell : goal.invariant-loop-cell
invariant-loop-cell l = (l.text.items ++ flat_map (λ cell. lines_text (cell_lines l.cells cell)) (range_with_len l.cell (l.cells - l.cell)) ≡ l.fn.text.items ++ flat_map (λ cell. lines_text (cell_lines l.cells cell)) (range_with_len 0 l.cells))
    × (l.draws ≡ drawn_state l.cells (draws_before l.cell))
