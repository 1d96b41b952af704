-- the pins so far, and those of the links that are left; a board has few links
use Rattle.std.proofs.Common.{◌≡◌, ◌≤◌, ◌+◌, drop}
use Rattle.vw_bound.specs.Pins.{pins_into}
use Rattle.vw_bound.proofs.rooms.pins_into.Given as goal

abbrev pub invariant-loop-link : goal.invariant-loop-link
invariant-loop-link l = record {
  rest : l.pins + pins_into (drop l.link-index l.board.links) l.node ≡ pins_into l.board.links l.node;
  few : pins_into l.board.links l.node ≤ 69696;
}
