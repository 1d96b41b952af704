use Rattle.std.proofs.Common.{◌<◌, ◌∙◌, sym, refl, ap, length, get_or, List, arith}
use Rattle.vw_plan.specs.declared.wire.Wire.{Wire}
use Rattle.vw_check.proofs.FaultOrder.{no_fault}
use Rattle.vw_check.proofs.Clashes.{clash_behind-pin_clash, wires_clash, wires_end, wires_first, wires_next}
use Rattle.vw_check.proofs.clash.pin_clash.Goals as goal

-- all wires are left at first
pub loop-number-init : goal.loop-number-init
loop-number-init c = wires_first c.args.plan.now.wires c.none-pins.result.users c.none-pins.ensures

-- a wire without a clash has its pins then
pub loop-number-preserved : goal.loop-number-preserved
loop-number-preserved c =
    let wires = c.args.plan.now.wires in
    let number = c.loop-number.number in
    let within : number < length wires = omega (arith, ap length c.wires-wire-items.ensures) in
    let is = c.wire-item.is ∙ ap (λ (list : List Wire). get_or list number c.wire-item.result) c.wires-wire-items.ensures in
    wires_next number wires c.loop-number.pins.users c.clash_in.new.pins.users c.loop-number.invariant c.wire-item.result within is c.wire-item.result.hops refl c.in_ok-found.found c.in_ok-found.ensures (no_fault c.in_ok-found.found c.if-is_some.ensures)

-- the first clash of the rest is the first of all
pub returns-then-is_some : goal.returns-then-is_some
returns-then-is_some c =
    let wires = c.args.plan.now.wires in
    let number = c.loop-number.number in
    let within : number < length wires = omega (arith, ap length c.wires-wire-items.ensures) in
    let is = c.wire-item.is ∙ ap (λ (list : List Wire). get_or list number c.wire-item.result) c.wires-wire-items.ensures in
    wires_clash number wires c.loop-number.pins.users c.clash_in.new.pins.users c.loop-number.invariant c.wire-item.result within is c.wire-item.result.hops refl c.in_ok-found.found c.in_ok-found.ensures (sym c.if-is_some.ensures) ∙ clash_behind-pin_clash c.args.plan.now

-- none is left in the end
pub returns : goal.returns
returns c = wires_end c.loop-number.number c.args.plan.now.wires c.loop-number.pins.users c.loop-number.invariant (omega (arith, ap length c.wires-wire-items.ensures)) ∙ clash_behind-pin_clash c.args.plan.now
