-- What is wrong with the chips of the cells, and with the period. Each cell has to have a chip, and no chip more cells than
-- it has room for. The chips are those of a plan, or of one that is to be made.
use Rattle.std.specs.Prelude.{◌==◌, ℕ, Bool, not, ◌&&◌, List, length, Option, nat_le}
use Rattle.std.specs.List.{range_with_len}
use Rattle.vw_net.specs.declared.flat.Flat.{Flat}
use Rattle.vw_plan.specs.declared.board.Board.{Board}
use Rattle.vw_plan.specs.declared.plan.Plan.{Plan}
use Rattle.vw_plan.specs.Chips.{cells_on}
use Rattle.vw_check.specs.declared.fault.PlanFault.{PlanFault}
use Rattle.vw_check.specs.declared.fault.PlanFault.TheVariants.{WrongCells, ZeroPeriod, BadChip, Overfull}
use Rattle.vw_net.specs.FirstFound.{first_at, found_if, found_unless}

-- there is another number of entries than there are cells
abbrev pub wrong_cells : Flat → List ℕ → Option PlanFault
wrong_cells flat chip_of = found_unless (length chip_of == length flat.cells) (WrongCells (length chip_of) (length flat.cells))

-- the period is 0
abbrev pub zero_period : Plan → Option PlanFault
zero_period plan = found_if (plan.period == 0) ZeroPeriod

-- whether a number is that of a chip
abbrev pub is_chip : Board → ℕ → Bool
is_chip board chip = not (chip == 0) && nat_le chip board.chips

-- the first cell whose entry is no chip
abbrev pub bad_chip : Board → List ℕ → Option PlanFault
bad_chip board chip_of = first_at (λ cell chip. found_unless (is_chip board chip) (BadChip cell)) 0 chip_of

-- the least chip that has more cells than it has room for
abbrev pub overfull : Board → List ℕ → Option PlanFault
overfull board chip_of = first_at (λ _ chip. found_unless (nat_le (cells_on chip_of chip) board.cells) (Overfull chip (cells_on chip_of chip))) 0 (range_with_len 1 board.chips)
