use Rattle.std.proofs.Common.{◌≡◌, get_or, ap, arith}
use Rattle.vw_plan.specs.declared.board.Board.{Board}
use Rattle.vw_plan.specs.declared.wire.Wire.{Wire}
use Rattle.vw_chain.specs.Timing.{planned_of}
use Rattle.vw_report.proofs.ShortPlans.{wire_low}
use Rattle.vw_report.proofs.reported.Reported.is_short.Goals as goal

pub distance-far-requires-clause-to : goal.distance-far-requires-clause-to
distance-far-requires-clause-to c =
    let timed = c.args.self.now.timed.now in
    let planned = planned_of timed in
    let place = c.loop-wire.wire-index in
    let listed = c.wires-wire-items.ensures in
    let within = rw listed at c.loop-wire-test.true in
    let is : c.wire-item.result ≡ get_or planned.plan.wires place c.wire-item.result = rw listed at c.wire-item.is in
    let low = wire_low planned timed.sound place c.wire-item.result within in
    omega (arith, low, c.to.ensures, ap (λ (wire : Wire). wire.to) is, ap (λ (board : Board). board.chips) c.requires)
