-- what is written, and the columns that are left
use Rattle.std.proofs.Common.{◌≡◌, ◌++◌, drop}
use Rattle.vw_design.specs.Clocks.{columns}
use Rattle.vw_front.proofs.names.push_columns.Given as goal

abbrev pub invariant-loop-column : goal.invariant-loop-column
invariant-loop-column l = l.names.items ++ drop l.column (columns l.elaborated) ≡ l.fn.names.items ++ columns l.elaborated
