-- the first cell without a chip is the first of the rest
use Rattle.std.proofs.Common.{◌≡◌, drop}
use Rattle.vw_check.specs.declared.fault.PlanFault.TheVariants.{BadChip}
use Rattle.vw_net.specs.FirstFound.{first_at, found_unless}
use Rattle.vw_check.specs.CellFaults.{bad_chip, is_chip}
use Rattle.vw_check.proofs.cells.bad_chip.Given as goal

abbrev pub invariant-loop-cell : goal.invariant-loop-cell
invariant-loop-cell l = first_at (λ cell chip. found_unless (is_chip l.board chip) (BadChip cell)) l.cell (drop l.cell l.chip_of) ≡ bad_chip l.board l.chip_of
