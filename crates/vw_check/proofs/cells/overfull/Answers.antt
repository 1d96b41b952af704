use Rattle.std.proofs.Common.{◌≡◌, ◌+◌, ◌∙◌, ℕ, Bool, true, false, Some, None, ap, nat_le, arith}
use Rattle.std.proofs.lemmas.Bool.{le-leb, lt-leb}
use Rattle.vw_check.specs.declared.fault.PlanFault.TheVariants.{Overfull}
use Rattle.vw_net.specs.FirstFound.{found_unless}
use Rattle.vw_plan.specs.Chips.{cells_on}
use Rattle.vw_check.proofs.ChipRange.{chip_found, chip_next}
use Rattle.vw_check.proofs.cells.overfull.Goals as goal

-- the chip has too many cells, and is the first
pub returns-then-count-cells : goal.returns-then-count-cells
returns-then-count-cells c =
    let board = c.args.board.now in
    let chip_of = c.args.chip_of.now in
    let chip = c.loop-chip.chip in
    let count = λ (one : ℕ). cells_on chip_of one in
    let found = λ (one : ℕ). found_unless (nat_le (count one) board.cells) (Overfull one (count one)) in
    let over : nat_le (count chip) board.cells ≡ false = lt-leb (count chip) board.cells (omega arith) in
    let is : found chip ≡ Some (Overfull chip (count chip)) = ap (λ (fits : Bool). found_unless fits (Overfull chip (count chip))) over in
    ap (λ (number : ℕ). Some (Overfull chip number)) c.cells_on-count.ensures ∙ chip_found found chip (board.chips + 1) c.loop-chip.auto.chip (omega arith) (Overfull chip (count chip)) is ∙ c.loop-chip.invariant

pub loop-chip-preserved : goal.loop-chip-preserved
loop-chip-preserved c =
    let board = c.args.board.now in
    let chip_of = c.args.chip_of.now in
    let chip = c.loop-chip.chip in
    let count = λ (one : ℕ). cells_on chip_of one in
    let found = λ (one : ℕ). found_unless (nat_le (count one) board.cells) (Overfull one (count one)) in
    let fits : nat_le (count chip) board.cells ≡ true = le-leb (count chip) board.cells (omega arith) in
    let none : found chip ≡ None = ap (λ (is : Bool). found_unless is (Overfull chip (count chip))) fits in
    chip_next found chip (board.chips + 1) c.loop-chip.auto.chip (omega arith) none ∙ c.loop-chip.invariant
