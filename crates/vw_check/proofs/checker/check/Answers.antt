use Rattle.std.proofs.Common.{◌≡◌, ◌∙◌, sym, refl, Some, inr}
use Rattle.vw_plan.specs.PlannedBoard.{planned_board}
use Rattle.vw_check.specs.Faults.{plan_fault}
use Rattle.vw_check.proofs.checker.check.Goals as goal

-- a plan without a fault is sound
pub make-requires : goal.make-requires
make-requires c = c.faultless_plans_are_sound.ensures (planned_board c.args.ordered c.args.board c.args.plan) (sym c.in-Ok-None.ensures ∙ c.in-Ok-None.field-0-is)

-- and a fault breaks a point of a sound plan
pub returns-in-Ok-Some-clause-refused : goal.returns-in-Ok-Some-clause-refused
returns-in-Ok-Some-clause-refused c =
    let planned = planned_board c.args.ordered c.args.board c.args.plan in
    let is : plan_fault planned ≡ Some c.in-Ok-Some.fault = sym c.in-Ok-Some.ensures ∙ c.in-Ok-Some.field-0-is in
    record { fault = inr (is, c.faults_break_points.ensures planned c.in-Ok-Some.fault is); ordered = refl; board = refl; plan = refl }
