-- what is written, and the columns that are left
use Rattle.std.proofs.Common.{◌≡◌, ◌++◌, [], ◌∷◌, drop}
use Rattle.vw_net.specs.Gathered.{listed}
use Rattle.vw_text.specs.Physical.{lines_text}
use Rattle.vw_listing.specs.Netlist.{column_line, column_lines}
use Rattle.vw_listing.proofs.lines.push_columns.Given as goal

abbrev pub invariant-loop-net : goal.invariant-loop-net
invariant-loop-net l =
    l.text.items ++ lines_text (listed (λ net name. column_line net name ∷ []) l.net (drop l.net l.names)) ≡ l.fn.text.items ++ lines_text (column_lines l.names)
