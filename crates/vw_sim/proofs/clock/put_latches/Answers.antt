use Rattle.std.proofs.Common.{ap, ◌∙◌, refl, length, Some, arith}
use Rattle.std.proofs.lemmas.Option.{slice_get_read}
use Rattle.vw_sim.proofs.Latches.{put_past_gate, put_past_latch}
use Rattle.vw_sim.proofs.clock.put_latches.Goals as goal
use Rattle.vw_sim.proofs.clock.put_latches.Goals.{in-Latch, in_default}

-- the bit of a latch is written to its net; a gate changes nothing
pub loop-number-preserved : goal.loop-number-preserved
loop-number-preserved c =
    let cells = c.cells-cell-items.result.now in
    let here = slice_get_read cells _ c.loop-number.number c.cell-item.result refl c.loop-number-test.true c.cell-item.is in
    elim c.match-cell.branch [
      | in-Latch w ↦ put_past_latch _ cells _ _ _ _ _ c.loop-number.invariant w.in-Latch.d w.in-Latch.init c.match-cell.values c.match-cell.latch (here ∙ ap Some w.in-Latch.is) (omega (arith, ap length c.cells-cell-items.ensures)) (cc) w.latch-is
      | in_default w ↦ put_past_gate _ cells _ _ _ _ _ c.loop-number.invariant w.in_default.field-0 w.in_default.field-1 c.match-cell.values c.match-cell.latch (here ∙ ap Some w.in_default.is) w.values-is w.latch-is
    ]
