-- each row has a mark for each input
use Rattle.std.proofs.Common.{◌≡◌, length, All}
use Rattle.vw_merge.proofs.table.rows_where.Given as goal

abbrev pub invariant-loop-place : goal.invariant-loop-place
invariant-loop-place l = All (λ row. length row.marks ≡ l.inputs) l.rows.items
