-- the first chip of all with too many cells is the first of the rest
use Rattle.std.proofs.Common.{◌≡◌, ◌+◌, ◌-◌}
use Rattle.std.specs.Prelude.{nat_le}
use Rattle.std.specs.List.{range_with_len}
use Rattle.vw_check.specs.declared.fault.PlanFault.TheVariants.{Overfull}
use Rattle.vw_net.specs.FirstFound.{first_at, found_unless}
use Rattle.vw_check.specs.CellFaults.{overfull}
use Rattle.vw_plan.specs.Chips.{cells_on}
use Rattle.vw_check.proofs.cells.overfull.Given as goal

abbrev pub invariant-loop-chip : goal.invariant-loop-chip
invariant-loop-chip l = first_at (λ _ chip. found_unless (nat_le (cells_on l.chip_of chip) l.board.cells) (Overfull chip (cells_on l.chip_of chip))) (l.chip - 1) (range_with_len l.chip (l.board.chips + 1 - l.chip)) ≡ overfull l.board l.chip_of
