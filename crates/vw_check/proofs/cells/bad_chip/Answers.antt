use Rattle.std.proofs.Common.{◌∙◌, ℕ, Bool, ap, sym}
use Rattle.vw_check.specs.CellFaults.{is_chip}
use Rattle.vw_check.specs.declared.fault.PlanFault.TheVariants.{BadChip}
use Rattle.vw_net.specs.FirstFound.{found_unless}
use Rattle.vw_net.proofs.FirstFound.{search_ends, search_on}
use Rattle.vw_check.proofs.cells.bad_chip.Goals as goal

pub returns-then-not-is_chip : goal.returns-then-not-is_chip
returns-then-not-is_chip c =
    let cell = c.loop-cell.cell in
    let none = sym c.is_chip.ensures ∙ c.if-not-is_chip.true in
    search_ends (λ (cell chip : ℕ). found_unless (is_chip c.args.board.now chip) (BadChip cell)) cell c.args.chip_of.now 0 c.loop-cell-test.true (BadChip cell) (ap (λ (fits : Bool). found_unless fits (BadChip cell)) none) ∙ c.loop-cell.invariant

pub loop-cell-preserved : goal.loop-cell-preserved
loop-cell-preserved c =
    let cell = c.loop-cell.cell in
    let chip = sym c.is_chip.ensures ∙ c.if-not-is_chip.false in
    search_on (λ (cell chip : ℕ). found_unless (is_chip c.args.board.now chip) (BadChip cell)) cell c.args.chip_of.now 0 c.loop-cell-test.true (ap (λ (fits : Bool). found_unless fits (BadChip cell)) chip) ∙ c.loop-cell.invariant
