use Rattle.std.proofs.Common.{◌≡◌, ◌<◌, ◌∙◌, length, get_or, arith}
use Rattle.std.proofs.lemmas.List.{get_or_default}
use Rattle.vw_part.proofs.Shares.{one_left}
use Rattle.vw_part.proofs.tally.Tally.take.Goals as goal

-- a place that is left is still to be counted off
pub overflow_sub-index_mut : goal.overflow_sub-index_mut
overflow_sub-index_mut c =
    let places = c.args.places.now in
    let index = c.loop-place.place-index in
    let counts = c.loop-place.self.counts.items in
    let place = get_or places index 0 in
    let within : index < length places = omega arith in
    let there : place < length counts = omega (arith, c.requires.within index 0 within, c.loop-place.invariant.long) in
    let value : c.index_mut.result.now ≡ get_or counts place 0 = c.index_mut.ensures.value ∙ get_or_default counts place c.index_mut.result.now 0 there in
    omega (arith, value, one_left places index within, c.loop-place.invariant.counts place, c.requires.there place)
