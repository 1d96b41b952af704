-- the pins of the links so far, 64 a link at most
use Rattle.std.proofs.Common.{◌≡◌, ◌≤◌, ◌*◌, take}
use Rattle.vw_board.specs.Pins.{used_pins}
use Rattle.vw_board.proofs.pins.used_pins.Given as goal

abbrev pub invariant-loop-link : goal.invariant-loop-link
invariant-loop-link l = (l.used ≡ used_pins (take l.link-index l.links) l.chip) × (l.used ≤ 64 * l.link-index)
