use Rattle.std.proofs.Common.{◌∙◌, ℕ, Bool, ap, sym}
use Rattle.vw_plan.specs.declared.wire.Wire.{Wire}
use Rattle.vw_check.specs.declared.fault.PlanFault.TheVariants.{ExtraWire}
use Rattle.vw_net.specs.FirstFound.{found_if}
use Rattle.vw_check.specs.Steps.Wires.{is_extra}
use Rattle.vw_net.proofs.FirstFound.{search_ends, search_on}
use Rattle.vw_check.proofs.wires.extra_wire.Goals as goal

pub returns-then-is_extra : goal.returns-then-is_extra
returns-then-is_extra c =
    let test = is_extra c.args.needs.now.places c.args.wires.now.places in
    let number = c.loop-number.number in
    let here = rw c.wires-wire-items.ensures at c.wire-item.is in
    let extra = ap (test number) (sym here) ∙ sym c.is_extra.ensures ∙ c.if-is_extra.true in
    search_ends (λ (number : ℕ) (wire : Wire). found_if (test number wire) (ExtraWire number)) number c.args.plan.now.wires c.wire-item.result (rw c.wires-wire-items.ensures at c.loop-number-test.true) (ExtraWire number) (ap (λ (is : Bool). found_if is (ExtraWire number)) extra) ∙ c.loop-number.invariant

pub loop-number-preserved : goal.loop-number-preserved
loop-number-preserved c =
    let test = is_extra c.args.needs.now.places c.args.wires.now.places in
    let number = c.loop-number.number in
    let here = rw c.wires-wire-items.ensures at c.wire-item.is in
    let needed = ap (test number) (sym here) ∙ sym c.is_extra.ensures ∙ c.if-is_extra.false in
    search_on (λ (number : ℕ) (wire : Wire). found_if (test number wire) (ExtraWire number)) number c.args.plan.now.wires c.wire-item.result (rw c.wires-wire-items.ensures at c.loop-number-test.true) (ap (λ (is : Bool). found_if is (ExtraWire number)) needed) ∙ c.loop-number.invariant
