use Rattle.std.proofs.Common.{arith, slice_index}
use Rattle.vw_delays.proofs.LevelDelays.{nearest_low}
use Rattle.vw_delays.proofs.rows.nearest.Goals as goal

-- no link gives more than the limit
pub loop-link-init : goal.loop-link-init
loop-link-init c =
    let low = nearest_low c.args.limit c.args.links.now (slice_index c.args.row.now) c.args.from in
    record { low = omega arith; whole = omega (arith, low) }
