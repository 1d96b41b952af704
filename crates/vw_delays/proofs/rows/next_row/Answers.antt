use Rattle.std.proofs.Common.{◌+◌}
use Rattle.vw_delays.proofs.DelayRows.{next_delay, row_low, row_push}
use Rattle.vw_delays.proofs.rows.next_row.Goals as goal

pub delay_from-requires-clause-low : goal.delay_from-requires-clause-low
delay_from-requires-clause-low c = row_low c.args.links.now c.args.limit c.args.to c.args.row.now c.requires.low c.requires.row

pub loop-from-preserved : goal.loop-from-preserved
loop-from-preserved c =
    let is = next_delay c.args.links.now c.args.limit c.args.to c.args.row.now c.loop-from.from c.delay_from.result c.requires.links c.requires.row c.delay_from.ensures in
    rw c.in_ok-push.ensures.items (row_push c.args.links.now (c.args.limit + 1) c.args.to c.loop-from.from c.loop-from.next.items c.delay_from.result c.loop-from.invariant is)
