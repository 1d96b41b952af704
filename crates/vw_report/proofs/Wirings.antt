-- A sound plan with its tables.
use Rattle.std.proofs.Common.{◌≡◌, ◌<◌, ◌+◌, ◌∙◌, length, ap, sym, subst, All}
use Rattle.vw_net.specs.declared.ordered.Ordered.{Ordered}
use Rattle.vw_plan.specs.declared.board.Board.{Board}
use Rattle.vw_plan.specs.declared.checked.Checked.{Checked}
use Rattle.vw_plan.specs.declared.plan.Plan.{Plan}
use Rattle.vw_plan.specs.declared.wire.Wire.{Wire}
use Rattle.vw_plan.specs.PlannedBoard.{planned_board}
use Rattle.vw_plan.proofs.NeededWires.{wires_fine}

module _ (checked : Checked) (ordered : Ordered) (board : Board) (plan : Plan) (one : ordered ≡ checked.ordered) (two : board ≡ checked.board) (three : plan ≡ checked.plan) where
  pub same_board : planned_board ordered board plan ≡ planned_board checked.ordered checked.board checked.plan
  same_board = λ i. planned_board (one i) (two i) (three i)

  pub each_cell : length plan.chip_of ≡ length ordered.flat.cells
  each_cell = ap (λ (own : Plan). length own.chip_of) three ∙ checked.sound.one_chip_each.each ∙ sym (ap (λ (own : Ordered). length own.flat.cells) one)

  pub its_nets : All (λ wire. wire.net < ordered.flat.inputs + length ordered.flat.cells) plan.wires
  its_nets =
      subst (λ (own : Ordered). All (λ (wire : Wire). wire.net < own.flat.inputs + length own.flat.cells) plan.wires) (sym one)
      (subst (λ (own : Plan). All (λ (wire : Wire). wire.net < checked.ordered.flat.inputs + length checked.ordered.flat.cells) own.wires) (sym three) (wires_fine (planned_board checked.ordered checked.board checked.plan) checked.sound))
