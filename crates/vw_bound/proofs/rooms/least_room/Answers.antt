use Rattle.std.proofs.Common.{◌≡◌, ◌+◌, ◌-◌, ◌/◌, length, max, slice_index, refl, rules}
use Rattle.vw_bound.proofs.RisingTimes.{room_next}
use Rattle.vw_bound.proofs.rooms.least_room.Goals as goal

pub loop-place-preserved : goal.loop-place-preserved
loop-place-preserved c =
    let pins = c.args.pins in
    let times = c.args.times.now in
    let place = c.loop-place.place in
    let more : c.max-least.result ≡ max c.loop-place.least (slice_index times place + (length times - place - 1) / pins) = search rules in
    room_next pins times c.requires.some place (length times - place - 1) (slice_index times place) c.loop-place.least c.max-least.result c.loop-place-test.true refl refl more c.loop-place.invariant
