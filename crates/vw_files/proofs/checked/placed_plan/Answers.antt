use Rattle.std.proofs.Common.{◌≤◌, ℕ, List, subst}
use Rattle.vw_plan.specs.Chips.{cells_on}
use Rattle.vw_files.proofs.checked.placed_plan.Goals as goal

-- where there is no fault, no chip has too many cells
pub compile_for-requires-clause-room : goal.compile_for-requires-clause-room
compile_for-requires-clause-room c = λ chip.
    let place = rw c.in_default.is at c.chips_fault.ensures.place in
    subst (λ (chips : List ℕ). cells_on chips chip ≤ c.args.board.cells) c.as_slice.ensures (place.room chip)
