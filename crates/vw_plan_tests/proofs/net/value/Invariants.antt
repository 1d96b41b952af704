-- the rows so far have a mark for each input
use Rattle.std.proofs.Common.{◌≡◌, length, All}
use Rattle.vw_plan_tests.proofs.net.value.Given as goal

abbrev pub invariant-loop-marks : goal.invariant-loop-marks
invariant-loop-marks l = All (λ row. length row.marks ≡ l.width) l.table.items
