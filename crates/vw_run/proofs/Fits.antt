-- A sound plan has room for every cell; and room for the cells of a list.
use Rattle.std.proofs.Common.{◌≡◌, ◌≤◌, ◌*◌, ℕ, List, length, sym, subst, arith}
use Rattle.vw_plan.specs.Chips.{cells_on}
use Rattle.vw_plan.specs.PlannedBoard.{PlannedBoard}
use Rattle.vw_plan.specs.Sound.{IsSound}
use Rattle.vw_part.proofs.ChipLoads.{all_fit}

pub sound_plans_fit : (planned : PlannedBoard) → IsSound planned → length planned.ordered.flat.cells ≤ planned.board.chips * planned.board.cells
sound_plans_fit planned sound =
    let one = sound.one_chip_each in
    omega (arith, one.each, all_fit planned.plan.chip_of planned.board.chips planned.board.cells one.chips one.room)

-- what is on the chips of a list is on those of the same list
pub same_room : (chips other : List ℕ) (room : ℕ) → chips ≡ other → ((chip : ℕ) → cells_on other chip ≤ room) → (chip : ℕ) → cells_on chips chip ≤ room
same_room chips other room same fits chip = subst (λ (list : List ℕ). cells_on list chip ≤ room) (sym same) (fits chip)
