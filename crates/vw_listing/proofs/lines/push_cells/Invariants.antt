-- what is written, and the cells that are left
use Rattle.std.proofs.Common.{◌≡◌, ◌+◌, ◌++◌, drop}
use Rattle.vw_text.specs.Physical.{lines_text}
use Rattle.vw_listing.specs.Netlist.{cell_lines}
use Rattle.vw_listing.proofs.lines.push_cells.Given as goal

abbrev pub invariant-loop-place : goal.invariant-loop-place
invariant-loop-place l =
    l.text.items ++ lines_text (cell_lines l.names (l.first + l.place) (drop l.place l.cells)) ≡ l.fn.text.items ++ lines_text (cell_lines l.names l.first l.cells)
