use Rattle.std.proofs.Common.{List, subst}
use Rattle.vw_plan.specs.declared.wire.Hop.{Hop}
use Rattle.vw_plan.specs.Sound.{hops_of}
use Rattle.vw_report.specs.Steps.Busy.{AddsSlots}
use Rattle.vw_report.proofs.BusySlots.{next_wire}
use Rattle.vw_report.proofs.busy.BusyPins.of.Goals as goal

pub loop-wire-preserved : goal.loop-wire-preserved
loop-wire-preserved c =
    let wires = c.args.plan.now.wires in
    let listed = c.wires-wire-items.ensures in
    next_wire (hops_of c.args.plan.now) c.loop-wire.busy.slots c.add_all.new.self.slots wires c.loop-wire.wire-index c.wire-item.result (rw listed at c.loop-wire-test.true) (rw listed at c.wire-item.is)
    (subst (λ (hops : List Hop). AddsSlots hops c.loop-wire.busy.slots c.add_all.new.self.slots) c.hops.ensures c.in_ok-add_all.ensures) c.loop-wire.invariant
