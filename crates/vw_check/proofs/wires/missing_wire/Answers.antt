use Rattle.std.proofs.Common.{◌∙◌, ℕ, Bool, Some, get_or, is_some, ap, ap₂, sym}
use Rattle.vw_plan.specs.declared.need.Need.{Need}
use Rattle.vw_net.specs.FirstFound.{found_unless}
use Rattle.vw_ready.specs.Pairs.{pair_in}
use Rattle.vw_check.specs.declared.fault.PlanFault.TheVariants.{MissingWire}
use Rattle.vw_net.proofs.FirstFound.{search_ends, search_on}
use Rattle.vw_check.proofs.wires.missing_wire.Goals as goal

pub returns-then-is_none : goal.returns-then-is_none
returns-then-is_none c =
    let places = c.args.wires.now.places in
    let needs = c.args.needs.now in
    let place = c.loop-need.need-index in
    let need = get_or needs place (record { net = 0; to = 0 }) in
    let none = ap is_some (sym (c.first.ensures ∙ ap₂ (pair_in places) c.net.ensures c.to.ensures)) ∙ c.if-is_none.ensures in
    ap₂ (λ (net to : ℕ). Some (MissingWire net to)) c.net-then-is_none.ensures c.to-then-is_none.ensures
    ∙ search_ends (λ (number : ℕ) (other : Need). found_unless (is_some (pair_in places other.net other.to)) (MissingWire other.net other.to)) place needs (record { net = 0; to = 0 }) c.loop-need-test.true (MissingWire need.net need.to) (ap (λ (brought : Bool). found_unless brought (MissingWire need.net need.to)) none)
    ∙ c.loop-need.invariant

pub loop-need-preserved : goal.loop-need-preserved
loop-need-preserved c =
    let places = c.args.wires.now.places in
    let needs = c.args.needs.now in
    let place = c.loop-need.need-index in
    let need = get_or needs place (record { net = 0; to = 0 }) in
    let there = ap is_some (sym (c.first.ensures ∙ ap₂ (pair_in places) c.net.ensures c.to.ensures)) ∙ c.if-is_none.ensures in
    search_on (λ (number : ℕ) (other : Need). found_unless (is_some (pair_in places other.net other.to)) (MissingWire other.net other.to)) place needs (record { net = 0; to = 0 }) c.loop-need-test.true (ap (λ (brought : Bool). found_unless brought (MissingWire need.net need.to)) there)
    ∙ c.loop-need.invariant
