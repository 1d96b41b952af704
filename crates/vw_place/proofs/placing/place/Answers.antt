use Rattle.std.proofs.Common.{◌≡◌, ◌≤◌, ℕ, List, ap, sym, subst, All, arith}
use Rattle.vw_plan.specs.declared.board.Board.{Board}
use Rattle.vw_plan.specs.Chips.{IsChip, cells_on}
use Rattle.vw_place.specs.Numbering.{IsRenumbered}
use Rattle.vw_place.proofs.Renumbered.{cells_moved, chips_stay}
use Rattle.vw_place.proofs.placing.place.Goals as goal

-- what renumbering keeps
still_chips : (board : Board) (old given new : List ℕ) → given ≡ old → All (IsChip board) old → IsRenumbered board given new → All (IsChip board) new
still_chips board old given new same are is =
    let before : All (IsChip board) given = subst (λ (list : List ℕ). All (IsChip board) list) (sym same) are in
    subst (λ (list : List ℕ). All (IsChip board) list) (sym is.moved) (chips_stay board.chips is.to is.from is.numbering given before)

still_room : (board : Board) (old given new : List ℕ) → given ≡ old → IsRenumbered board given new → (most : ℕ) → ((chip : ℕ) → cells_on old chip ≤ most) → (chip : ℕ) → cells_on new chip ≤ most
still_room board old given new same is most before chip =
    omega (arith, ap (λ (list : List ℕ). cells_on list chip) is.moved, cells_moved board.chips is.to is.from is.numbering chip given, ap (λ (list : List ℕ). cells_on list (is.from chip)) same, before (is.from chip))

pub returns-in-Ok-clause-chips : goal.returns-in-Ok-clause-chips
returns-in-Ok-clause-chips c = still_chips c.args.board.now c.args.chip_of c.as_slice.result.now c.in-Ok.new c.as_slice.ensures c.requires.chips c.in-Ok.ensures.renumbered

pub returns-in-Ok-clause-room : goal.returns-in-Ok-clause-room
returns-in-Ok-clause-room c = still_room c.args.board.now c.args.chip_of c.as_slice.result.now c.in-Ok.new c.as_slice.ensures c.in-Ok.ensures.renumbered
