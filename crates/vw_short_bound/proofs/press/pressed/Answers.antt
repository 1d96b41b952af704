use Rattle.std.proofs.Common.{◌≡◌, ◌<◌, ◌+◌, ◌-◌, ◌/◌, ◌∙◌, ℕ, suc, length, max, min, slice_index, sym, subst, refl, rules, arith}
use Rattle.std.proofs.lemmas.Bool.{and_parts}
use Rattle.vw_short_bound.specs.Steps.Pressed.{IsPressSoFar}
use Rattle.vw_short_bound.specs.Steps.Rows.{has}
use Rattle.vw_short_bound.proofs.Slots.{press_more, press_same}
use Rattle.vw_short_bound.proofs.press.pressed.Goals as goal

pub loop-place-preserved-then-are_both : goal.loop-place-preserved-then-are_both
loop-place-preserved-then-are_both c =
    let times = c.args.times.now in
    let row = c.args.row.now in
    let members = c.args.members.now in
    let pins = c.args.pins in
    let left = c.loop-place.place - 1 in
    let count = c.loop-place.count in
    let here : c.loop-place.place ≡ suc left = omega (arith, c.loop-place-test.true) in
    let before = subst (λ (place : ℕ). IsPressSoFar times row members pins place count c.loop-place.from c.loop-place.least) here c.loop-place.invariant.shown in
    let both = and_parts (has row left) (has members left) (sym c.are_both.ensures ∙ c.if-are_both.true) in
    let first : c.min-from.result ≡ min c.loop-place.from (slice_index times left) = search rules in
    let more : c.max-least.result ≡ max c.loop-place.least (c.min-from.result + count / pins) = search rules in
    let within : left < length times = omega (arith, here, c.loop-place.invariant.few) in
    record {
      shown = press_more times row members pins left count c.loop-place.from c.loop-place.least c.min-from.result c.max-least.result (count + 1) (omega (arith, c.if-pins-eq0.false)) within both.0 both.1 first more refl before;
      few = omega (arith, c.loop-place-test.true, c.loop-place.invariant.few);
      low = omega (arith, first, c.loop-place.invariant.low);
    }

pub loop-place-preserved : goal.loop-place-preserved
loop-place-preserved c =
    let left = c.loop-place.place - 1 in
    let here : c.loop-place.place ≡ suc left = omega (arith, c.loop-place-test.true) in
    record {
      shown = press_same c.args.times.now c.args.row.now c.args.members.now c.args.pins left c.loop-place.count c.loop-place.from c.loop-place.least (subst (λ (place : ℕ). IsPressSoFar c.args.times.now c.args.row.now c.args.members.now c.args.pins place c.loop-place.count c.loop-place.from c.loop-place.least) here c.loop-place.invariant.shown);
      few = omega (arith, c.loop-place.invariant.few);
      low = c.loop-place.invariant.low;
    }
