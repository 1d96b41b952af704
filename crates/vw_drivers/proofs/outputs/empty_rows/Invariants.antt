-- so many rows so far
use Rattle.std.proofs.Common.{◌≡◌, length}
use Rattle.vw_drivers.proofs.outputs.empty_rows.Given as goal

abbrev pub invariant-loop : goal.invariant-loop
invariant-loop l = length l.rows.items ≡ l.counter
