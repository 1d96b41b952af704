use Rattle.std.proofs.Common.{List, ap, sym, subst, ◌∙◌}
use Rattle.vw_plan.specs.declared.board.Board.{Board}
use Rattle.vw_plan.specs.declared.checked.Checked.{Checked}
use Rattle.vw_world.specs.Lanes.{AreLanes, SeenLane}
use Rattle.vw_world.proofs.FirstBoards.{fresh_are, made_lanes}
use Rattle.vw_world.proofs.lanes.Lanes.make.Goals as goal

pub invariant_of-result : goal.invariant_of-result
invariant_of-result c =
    let board = c.board.ensures ∙ ap (λ (checked : Checked). checked.board) c.checked.ensures in
    let links = c.links-links.ensures ∙ ap (λ (board : Board). board.links) board in
    let made = made_lanes c.args.job.now c.links-links.result.now c.loop-link.lanes.items c.loop-link.link-index in
    let lanes = made links c.loop-link.invariant c.loop-link-test.false in
    subst (λ (lanes : List SeenLane). AreLanes (record { job = c.args.job.now; node = 0; lanes = lanes })) (sym lanes) (fresh_are c.args.job.now)
