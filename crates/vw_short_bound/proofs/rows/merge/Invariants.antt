-- the bits so far are of one of both rows
use Rattle.std.proofs.Common.{◌≡◌, ◌⊎◌, ℕ, true, length}
use Rattle.vw_short_bound.specs.Steps.Rows.{has}
use Rattle.vw_short_bound.proofs.rows.merge.Given as goal

abbrev pub invariant-loop-index : goal.invariant-loop-index
invariant-loop-index l = record {
  long : length l.row ≡ length l.fn.row;
  bits : (at : ℕ) → has l.row at ≡ true → (has l.fn.row at ≡ true) ⊎ (has l.other at ≡ true);
}
