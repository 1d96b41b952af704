use Rattle.std.proofs.Common.{◌≡◌, ◌<◌, ◌≤◌, slice_index, ap, arith}
use Rattle.vw_slots.specs.Steps.PinUses.{used_at, next_at, used_of, next_microcycle}
use Rattle.vw_slots.proofs.Chained.{busy_further}
use Rattle.vw_slots.proofs.pin_use.first_free.Goals as goal

pub loop-pin_use-smaller : goal.loop-pin_use-smaller
loop-pin_use-smaller c =
    let pin_uses = c.args.pin_uses.now in
    let place = c.loop-pin_use.at in
    let next : c.in-Some.pin_use.now.next ≡ next_at pin_uses c.args.link place = ap (next_microcycle place) c.in-Some.ensures.value in
    let later : place < next_at pin_uses c.args.link place = c.requires.chained.later c.args.link place in
    omega (arith, c.next-at.ensures, c.next-at.type_inv)

pub loop-pin_use-preserved : goal.loop-pin_use-preserved
loop-pin_use-preserved c =
    let pin_uses = c.args.pin_uses.now in
    let place = c.loop-pin_use.at in
    let next : c.in-Some.pin_use.now.next ≡ next_at pin_uses c.args.link place = ap (next_microcycle place) c.in-Some.ensures.value in
    let used : c.in-Some.pin_use.now.used ≡ used_at pin_uses c.args.link place = ap used_of c.in-Some.ensures.value in
    let later : place < next_at pin_uses c.args.link place = c.requires.chained.later c.args.link place in
    let full : slice_index c.args.widths.now c.args.link ≤ used_at pin_uses c.args.link place =
    omega (arith, c.if-pin_use-width.false, c.loop-pin_use.invariant.width) in
    let further = busy_further c.args.widths.now pin_uses c.args.link c.args.not_before place c.requires.chained c.loop-pin_use.invariant.busy full in
    record {
      in_time = omega (arith, c.next-at.ensures);
      busy = λ at past early. further at past (omega (arith, c.next-at.ensures));
      width = c.loop-pin_use.invariant.width;
    }
