-- Needed pairs that press on the pins of some links: no more of them can be there within some microcycles than these pins
-- have room for.
use Rattle.std.proofs.Common.{◌≡◌, ◌<◌, ◌≤◌, ◌+◌, ◌-◌, ◌*◌, ◌&&◌, ℕ, Bool, true, List, length, map, slice_get, Some, nat_le, nat_lt, sym, ◌∙◌, lt-ltb, le-leb, arith}
use Rattle.std.specs.List.{count_by, list_any}
use Rattle.std.proofs.lemmas.Bool.{and_from}
use Rattle.vw_net.proofs.CountsOverLists.{count_map}
use Rattle.vw_net.proofs.ListedLists.{any_stands}
use Rattle.vw_plan.specs.declared.link.Link.{Link}
use Rattle.vw_plan.specs.declared.need.Need.{Need}
use Rattle.vw_plan.specs.declared.wire.Hop.{Hop}
use Rattle.vw_plan.specs.declared.wire.Wire.{Wire}
use Rattle.vw_plan.specs.Lead.{after_last, arrival, carries}
use Rattle.vw_plan.specs.Needs.{is_pair, needed_pairs}
use Rattle.vw_plan.specs.PlannedBoard.{PlannedBoard}
use Rattle.vw_plan.specs.Sound.{IsSound, hops_of}
use Rattle.vw_plan.proofs.HopLinks.{HopFacts, HopLink, hop_facts}
use Rattle.vw_plan.proofs.NeededPairs.{count-needed_pairs}
use Rattle.vw_plan.proofs.OneHopAPin.{one_user}
use Rattle.vw_plan.proofs.WireEnds.{LastHop, last_hop}
use Rattle.vw_bound.specs.Pins.{pins_of}
use Rattle.vw_bound.proofs.Counting.{counted_within, pairs_counted}
use Rattle.vw_bound.proofs.SlotCounts.{arrives_in, board_counts, over_links}

-- the last hop of a wire, and its link
pub record LastLink (planned : PlannedBoard) (wire : Wire) : Type 0 where
  pub place : ℕ
  pub hop : Hop
  pub at : slice_get wire.hops place ≡ Some hop
  pub last : place + 1 ≡ length wire.hops
  pub over : HopLink planned.board hop
  pub to : hop.to ≡ wire.to
  pub brings : after_last planned.board.links wire.hops ≡ arrival planned.board.links hop + 1
  pub within : arrival planned.board.links hop < planned.plan.period

pub last_link : (planned : PlannedBoard) → IsSound planned → (number : ℕ) (wire : Wire) → slice_get planned.plan.wires number ≡ Some wire → LastLink planned wire
last_link planned sound number wire there =
    let found : LastHop planned wire = last_hop planned sound number wire there in
    let facts : HopFacts planned found.hop = hop_facts planned sound number found.place wire found.hop there found.at in
    record {
      place = found.place;
      hop = found.hop;
      at = found.at;
      last = found.last;
      over = facts.over;
      to = found.ends.to;
      brings = found.ends.brings;
      within = facts.within;
    }

-- the pair of a wire
abbrev pub pair_of : Wire → Need
pair_of wire = record { net = wire.net; to = wire.to }

module _ (planned : PlannedBoard) (sound : IsSound planned) (over : Link → Bool) (from end : ℕ) (chosen : Need → Bool) where
  -- a wire comes over one of the links, not before a microcycle, and by another
  pub record Presses (wire : Wire) (own : LastLink planned wire) : Type 0 where
    pub passes : over own.over.link ≡ true
    pub late : from ≤ after_last planned.board.links wire.hops
    pub in_time : after_last planned.board.links wire.hops ≤ end

  module _ (presses : (number : ℕ) (wire : Wire) (there : slice_get planned.plan.wires number ≡ Some wire) → chosen (pair_of wire) ≡ true → Presses wire (last_link planned sound number wire there)) where
    abbrev hit : Hop → Bool
    hit hop = over_links planned.board (hops_of planned.plan) (λ one. one_user planned one sound) over planned.board.links hop && arrives_in planned.board (hops_of planned.plan) (λ one. one_user planned one sound) from (end + 1 - from) hop

    hits : (number : ℕ) (wire : Wire) → slice_get planned.plan.wires number ≡ Some wire → chosen (pair_of wire) ≡ true → list_any hit wire.hops ≡ true
    hits number wire there is =
        let own : LastLink planned wire = last_link planned sound number wire there in
        let press : Presses wire own = presses number wire there is in
        let hop = own.hop in
        let link = own.over.link in
        let time = arrival planned.board.links hop + 1 in
        let on : (over link && (carries hop link && nat_lt hop.pin link.width)) ≡ true = and_from (over link) (carries hop link && nat_lt hop.pin link.width) press.passes (and_from (carries hop link) (nat_lt hop.pin link.width) own.over.carried (lt-ltb hop.pin link.width own.over.pin)) in
        let some : over_links planned.board (hops_of planned.plan) (λ one. one_user planned one sound) over planned.board.links hop ≡ true = any_stands (λ (one : Link). over one && (carries hop one && nat_lt hop.pin one.width)) link planned.board.links (own.over.number, own.over.there) on in
        let late : from ≤ time = omega (arith, press.late, own.brings) in
        let before : time < from + (end + 1 - from) = omega (arith, press.late, press.in_time, own.brings) in
        any_stands hit hop wire.hops (own.place, own.at) (and_from (over_links planned.board (hops_of planned.plan) (λ one. one_user planned one sound) over planned.board.links hop) (arrives_in planned.board (hops_of planned.plan) (λ one. one_user planned one sound) from (end + 1 - from) hop) some (and_from (nat_le from time) (nat_lt time (from + (end + 1 - from))) (le-leb from time late) (lt-ltb time (from + (end + 1 - from)) before)))

    -- of pairs that are listed no more often than they are needed
    pub pressed_fit : (needs : List Need) → ((net node : ℕ) → count_by (is_pair net node) needs ≤ count_by (is_pair net node) (needed_pairs planned.ordered.flat planned.plan.chip_of))
        → count_by chosen needs ≤ pins_of planned.board.links over * (end + 1 - from)
    pressed_fit needs few =
        let pairs = map pair_of planned.plan.wires in
        let of_wires = λ (net node : ℕ). count_map (is_pair net node) pair_of planned.plan.wires in
        let as_often = λ (net node : ℕ). count-needed_pairs planned.ordered.flat planned.plan.chip_of net node ∙ sym (sound.one_wire_for_each_need net node) ∙ sym (of_wires net node) in
        let by_wires = pairs_counted needs pairs (λ net node. omega (arith, few net node, as_often net node)) chosen in
        let by_hops = counted_within (λ (wire : Wire). chosen (pair_of wire)) hit (λ (wire : Wire). wire.hops) planned.plan.wires hits in
        let slots = board_counts planned.board (hops_of planned.plan) (λ one. one_user planned one sound) over from (end + 1 - from) in
        omega (arith, by_wires, count_map chosen pair_of planned.plan.wires, by_hops, slots)
