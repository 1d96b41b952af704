use Rattle.std.proofs.Common.{◌∙◌}
use Rattle.vw_short_bound.proofs.SoonestNets.{empty_next}
use Rattle.vw_short_bound.proofs.soonest.empty_rows.Goals as goal

pub loop-preserved : goal.loop-preserved
loop-preserved c = rw c.in_ok-push.ensures.items (empty_next c.loop.counter c.loop.rows.items c.of.result (c.of.ensures ∙ c.new.ensures.items) c.loop.invariant)
