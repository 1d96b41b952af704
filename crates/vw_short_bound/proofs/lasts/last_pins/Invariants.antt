-- the pins so far, and those of the links that are left; a board has few links
use Rattle.std.proofs.Common.{◌≡◌, ◌≤◌, ◌+◌, drop}
use Rattle.vw_bound.specs.Pins.{pins_of}
use Rattle.vw_short_bound.specs.Shortest.{can_be_last}
use Rattle.vw_short_bound.proofs.lasts.last_pins.Given as goal

abbrev pub invariant-loop-link : goal.invariant-loop-link
invariant-loop-link l = record {
  rest : l.pins + pins_of (drop l.link-index l.board.links) (can_be_last l.board l.source l.node) ≡ pins_of l.board.links (can_be_last l.board l.source l.node);
  few : pins_of l.board.links (can_be_last l.board l.source l.node) ≤ 69696;
}
