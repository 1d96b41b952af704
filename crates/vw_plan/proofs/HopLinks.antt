-- The link over which a hop goes: its number, its ends, the hop's pin, and how late the hop's bit arrives.
use Rattle.std.proofs.Common.{◌≡◌, ◌<◌, ◌+◌, ◌&&◌, ◌==◌, ℕ, true, slice_get, Some, nat_lt, eqb-true, arith}
use Rattle.std.proofs.lemmas.Bool.{and_parts, ltb-true}
use Rattle.vw_net.proofs.ListedLists.{StandsIn, from_any}
use Rattle.vw_plan.specs.declared.board.Board.{Board}
use Rattle.vw_plan.specs.declared.link.Link.{Link}
use Rattle.vw_plan.specs.declared.wire.Hop.{Hop}
use Rattle.vw_plan.specs.declared.wire.Wire.{Wire}
use Rattle.vw_plan.specs.Lead.{arrival, carries, lag}
use Rattle.vw_plan.specs.PlannedBoard.{PlannedBoard}
use Rattle.vw_plan.specs.Sound.{IsRising, IsRouted, IsSound, has_pin}
use Rattle.vw_plan.proofs.HopsOfWires.{at_place}
use Rattle.vw_plan.proofs.LinkDelays.{arrives, its_lag, one_number, same_ends}

-- a hop's link, by its number
pub record HopLink (board : Board) (hop : Hop) : Type 0 where
  pub number : ℕ
  pub link : Link
  pub there : slice_get board.links number ≡ Some link
  pub carried : carries hop link ≡ true
  pub from : link.from ≡ hop.from
  pub to : link.to ≡ hop.to
  pub pin : hop.pin < link.width
  pub lags : lag board.links hop + 1 ≡ link.delay
  pub arrives : arrival board.links hop + 1 ≡ hop.at + link.delay

-- a hop that goes over a link on one of its pins has one
pub hop_link : (board : Board) (hop : Hop) → has_pin board.links hop ≡ true → HopLink board hop
hop_link board hop pin =
    let found = from_any (λ (link : Link). carries hop link && nat_lt hop.pin link.width) board.links pin in
    let link : Link = found.0 in
    let stands : StandsIn link board.links = found.1 in
    let parts = and_parts (carries hop link) (nat_lt hop.pin link.width) found.2 in
    let ends = and_parts (link.from == hop.from) (link.to == hop.to) parts.0 in
    record {
      number = stands.0;
      link = link;
      there = stands.1;
      carried = parts.0;
      from = eqb-true link.from hop.from ends.0;
      to = eqb-true link.to hop.to ends.1;
      pin = ltb-true hop.pin link.width parts.1;
      lags = its_lag board stands.0 link hop stands.1 parts.0;
      arrives = arrives board stands.0 link hop stands.1 parts.0;
    }

-- and no other
pub one_link : (board : Board) (hop : Hop) (own : HopLink board hop) (number : ℕ) (link : Link) → slice_get board.links number ≡ Some link
    → carries hop link ≡ true → number ≡ own.number
one_link board hop own number link there carried = one_number board number own.number link own.link there own.there (same_ends hop link own.link carried own.carried)

-- a hop of a wire of a sound plan has a link, and its bit arrives before the period ends
pub record HopFacts (planned : PlannedBoard) (hop : Hop) : Type 0 where
  pub over : HopLink planned.board hop
  pub within : arrival planned.board.links hop < planned.plan.period
  pub sent : hop.at < planned.plan.period

-- each hop of a wire has these
pub hop_facts : (planned : PlannedBoard) → IsSound planned → (number place : ℕ) (wire : Wire) (hop : Hop)
    → slice_get planned.plan.wires number ≡ Some wire → slice_get wire.hops place ≡ Some hop → HopFacts planned hop
hop_facts planned sound number place wire hop there is =
    let routed = at_place (IsRouted planned) planned.plan.wires number wire sound.routes there in
    let rising = at_place (IsRising planned) planned.plan.wires number wire sound.rising_microcycles there in
    let arrived : arrival planned.board.links hop < planned.plan.period = at_place (λ (one : Hop). arrival planned.board.links one < planned.plan.period) wire.hops place hop rising.within is in
    record {
      over = hop_link planned.board hop (at_place (λ (one : Hop). has_pin planned.board.links one ≡ true) wire.hops place hop routed.pins is);
      within = arrived;
      sent = omega (arith, arrived);
    }
