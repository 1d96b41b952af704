use Rattle.std.proofs.Common.{◌∙◌, ap, sym}
use Rattle.vw_ready.specs.LeadTables.{planned_in}
use Rattle.vw_check.specs.HopFaults.{broken_wire}
use Rattle.vw_net.proofs.FirstFound.{search_finds, search_passes}
use Rattle.vw_check.proofs.hops.broken_route.Goals as goal

pub returns-then-is_some : goal.returns-then-is_some
returns-then-is_some c =
    let planned = planned_in c.args.wired.now in
    let here = rw c.wires-wire-items.ensures at c.wire-item.is in
    let is = sym (c.broken_wire-found.ensures ∙ ap (broken_wire planned c.loop-number.number) here) in
    search_finds (broken_wire planned) c.loop-number.number planned.plan.wires c.wire-item.result (rw c.wires-wire-items.ensures at c.loop-number-test.true) c.broken_wire-found.result is c.if-is_some.ensures ∙ c.loop-number.invariant

pub loop-number-preserved : goal.loop-number-preserved
loop-number-preserved c =
    let planned = planned_in c.args.wired.now in
    let here = rw c.wires-wire-items.ensures at c.wire-item.is in
    let is = sym (c.broken_wire-found.ensures ∙ ap (broken_wire planned c.loop-number.number) here) in
    search_passes (broken_wire planned) c.loop-number.number planned.plan.wires c.wire-item.result (rw c.wires-wire-items.ensures at c.loop-number-test.true) c.broken_wire-found.result is c.if-is_some.ensures ∙ c.loop-number.invariant
