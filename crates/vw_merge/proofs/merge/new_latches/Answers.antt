use Rattle.std.proofs.Common.{◌∙◌, take, ap}
use Rattle.vw_merge.proofs.NewLatches.{gate_passed, latch_made, moved}
use Rattle.vw_merge.proofs.merge.new_latches.Goals as goal
use Rattle.vw_merge.proofs.merge.new_latches.Goals.{in-Gate, in-Latch+in-Some+in_ok-push-in-Latch}

-- one cell more
pub loop-cell-preserved : goal.loop-cell-preserved
loop-cell-preserved c =
    let cells = c.args.cells.now in
    let place = c.loop-cell.cell-index in
    let before = c.loop-cell.latches.items in
    elim c.match-cell.branch [
      | in-Gate w ↦ moved cells place c.cell-item.result _ c.args.to.now _ _ c.loop-cell-test.true c.cell-item.is w.in-Gate.is (ap (λ v. v.items) w.latches-is)
          (gate_passed (take place cells) before c.args.to.now c.loop-cell.invariant w.in-Gate.ins w.in-Gate.cover)
      | in-Latch+in-Some+in_ok-push-in-Latch w ↦ moved cells place c.cell-item.result _ c.args.to.now _ _ c.loop-cell-test.true c.cell-item.is w.in-Latch.is (ap (λ v. v.items) w.latches-is ∙ w.in_ok-push-in-Latch.ensures.items)
          (latch_made (take place cells) before c.args.to.now c.loop-cell.invariant w.in-Latch.d w.in-Some.net w.in-Latch.init w.in-Some.ensures)
    ]
