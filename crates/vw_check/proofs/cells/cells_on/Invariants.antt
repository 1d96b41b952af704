-- the count so far, and that of the rest
use Rattle.std.proofs.Common.{◌≡◌, ◌≤◌, ◌+◌, ◌==◌, drop}
use Rattle.std.specs.Prelude.{count_by}
use Rattle.vw_plan.specs.Chips.{cells_on}
use Rattle.vw_check.proofs.cells.cells_on.Given as goal

abbrev pub invariant-loop-other : goal.invariant-loop-other
invariant-loop-other l = record {
  counted : l.count + count_by (λ other. other == l.chip) (drop l.other-index l.chip_of) ≡ cells_on l.chip_of l.chip;
  few : l.count ≤ l.other-index;
}
