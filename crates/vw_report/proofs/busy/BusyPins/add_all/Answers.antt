use Rattle.std.proofs.Common.{◌++◌, get_or}
use Rattle.std.proofs.lemmas.List.{get_or_default}
use Rattle.vw_report.proofs.BusySlots.{next_hop}
use Rattle.vw_report.proofs.busy.BusyPins.add_all.Goals as goal

pub loop-hop-preserved : goal.loop-hop-preserved
loop-hop-preserved c hops has =
    let items = c.args.hops.now in
    let place = c.loop-hop.hop-index in
    next_hop (hops ++ items) c.loop-hop.self.slots c.add.new.self.slots items place (get_or items place (record { from = 0; to = 0; pin = 0; at = 0 })) c.loop-hop-test.true
    (get_or_default items place (record { from = 0; to = 0; pin = 0; at = 0 }) (get_or items place (record { from = 0; to = 0; pin = 0; at = 0 })) c.loop-hop-test.true) c.in_ok-add.ensures (c.loop-hop.invariant hops has)
