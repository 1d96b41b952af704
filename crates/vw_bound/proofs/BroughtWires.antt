-- When a needed pair is there: the wire that brings it, and how long its bit is under way.
use Rattle.std.proofs.Common.{◌≡◌, ◌<◌, ◌≤◌, ◌+◌, ℕ, Bool, true, List, [], ◌∷◌, slice_get, eqb, nat_lt, cond, ap, refl, sym, ◌∙◌, Option, Some, None, eqb-true, true≢false, All, arith}
use Rattle.std.specs.List.{find, list_any}
use Rattle.std.specs.Option.{option_map_or}
use Rattle.std.proofs.lemmas.Bool.{and_parts, ltb-true}
use Rattle.std.proofs.lemmas.List.Elements.{All-head, All-tail}
use Rattle.vw_net.proofs.CountsOverLists.{some_counted}
use Rattle.vw_net.proofs.ListedLists.{StandsIn, find_none, find_stands}
use Rattle.vw_plan.specs.declared.board.Board.{Board}
use Rattle.vw_plan.specs.declared.link.Link.{Link}
use Rattle.vw_plan.specs.declared.wire.Hop.{Hop}
use Rattle.vw_plan.specs.declared.wire.Wire.{Wire}
use Rattle.vw_plan.specs.Lead.{after_last, arrival, brings, brought_at, usable}
use Rattle.vw_plan.specs.Nets.{is_needed}
use Rattle.vw_plan.specs.PlannedBoard.{PlannedBoard, home}
use Rattle.vw_plan.specs.Sound.{IsRising, IsRouted, IsSound, has_pin, leads_to, rises}
use Rattle.vw_plan.proofs.HopLinks.{HopFacts, HopLink, hop_facts, hop_link}
use Rattle.vw_plan.proofs.HopsOfWires.{at_place}
use Rattle.vw_plan.proofs.WireEnds.{FirstHop, LastHop, first_hop, last_hop}
use Rattle.vw_delays.specs.Ways.{AreWays}

-- ---- the wire

-- the wire that brings a net to a node, by its number; it says when the net is there
pub record BroughtBy (planned : PlannedBoard) (net node : ℕ) : Type 0 where
  pub number : ℕ
  pub wire : Wire
  pub stands : slice_get planned.plan.wires number ≡ Some wire
  pub brought : wire.net ≡ net
  pub to : wire.to ≡ node
  pub there : brought_at planned node net ≡ after_last planned.board.links wire.hops

by_found : (planned : PlannedBoard) (net node : ℕ) → list_any (brings net node) planned.plan.wires ≡ true → (found : Option Wire)
    → find (brings net node) planned.plan.wires ≡ found → BroughtBy planned net node
by_found planned net node some None is = absurd (true≢false (sym some ∙ find_none (brings net node) planned.plan.wires is))
by_found planned net node some (Some wire) is =
    let found : StandsIn wire planned.plan.wires × (brings net node wire ≡ true) = find_stands (brings net node) wire planned.plan.wires is in
    let parts = and_parts (eqb wire.net net) (eqb wire.to node) found.1 in
    record {
      number = found.0.0;
      wire = wire;
      stands = found.0.1;
      brought = eqb-true wire.net net parts.0;
      to = eqb-true wire.to node parts.1;
      there = ap (λ (one : Option Wire). option_map_or (λ (w : Wire). after_last planned.board.links w.hops) one 0) is;
    }

pub brought_by : (planned : PlannedBoard) → IsSound planned → (net node : ℕ) → is_needed planned.ordered.flat planned.plan.chip_of net node ≡ true
    → BroughtBy planned net node
brought_by planned sound net node needed =
    let one = sound.one_wire_for_each_need net node ∙ ap (λ (is : Bool). cond is 1 0) needed in
    by_found planned net node (some_counted (brings net node) planned.plan.wires (omega (arith, one))) (find (brings net node) planned.plan.wires) refl

-- ---- its way

module _ (board : Board) (way : ℕ → ℕ → ℕ) (ways : AreWays board.links way) where
  -- over one hop, the way gets shorter by no more than the time until it has arrived
  hop_further : (hop : Hop) (to : ℕ) → has_pin board.links hop ≡ true → hop.at + way hop.from to ≤ arrival board.links hop + 1 + way hop.to to
  hop_further hop to pin =
      let over : HopLink board hop = hop_link board hop pin in
      let link : Link = over.link in
      let further = at_place (λ (l : Link). way l.from to ≤ l.delay + way l.to to) board.links over.number link (ways.further to) over.there in
      let from_same : way link.from to ≡ way hop.from to = ap (λ (node : ℕ). way node to) over.from in
      let to_same : way link.to to ≡ way hop.to to = ap (λ (node : ℕ). way node to) over.to in
      omega (arith, further, from_same, to_same, over.arrives)

  -- over some hops, a bit arrives no sooner than the way takes
  pub hops_late : (hop : Hop) (hops : List Hop) (from to : ℕ) → leads_to from (hop ∷ hops) to ≡ true → rises board.links (hop ∷ hops) ≡ true
      → All (λ one. has_pin board.links one ≡ true) (hop ∷ hops) → hop.at + way from to ≤ after_last board.links (hop ∷ hops)
  hops_late hop [] from to leads rise pins =
      let ends = and_parts (eqb hop.from from) (eqb hop.to to) leads in
      let step = hop_further hop to (All-head (λ (one : Hop). has_pin board.links one ≡ true) hop [] pins) in
      let from_same : way hop.from to ≡ way from to = ap (λ (node : ℕ). way node to) (eqb-true hop.from from ends.0) in
      let to_same : way hop.to to ≡ way to to = ap (λ (node : ℕ). way node to) (eqb-true hop.to to ends.1) in
      omega (arith, step, from_same, to_same, ways.own to)
  hops_late hop (next ∷ hops) from to leads rise pins =
      let starts = and_parts (eqb hop.from from) (leads_to hop.to (next ∷ hops) to) leads in
      let later = and_parts (nat_lt (arrival board.links hop) next.at) (rises board.links (next ∷ hops)) rise in
      let step = hop_further hop to (All-head (λ (one : Hop). has_pin board.links one ≡ true) hop (next ∷ hops) pins) in
      let rest = hops_late next hops hop.to to starts.1 later.1 (All-tail (λ (one : Hop). has_pin board.links one ≡ true) hop (next ∷ hops) pins) in
      let from_same : way hop.from to ≡ way from to = ap (λ (node : ℕ). way node to) (eqb-true hop.from from starts.0) in
      let after : arrival board.links hop < next.at = ltb-true (arrival board.links hop) next.at later.0 in
      omega (arith, step, rest, from_same, after)

module _ (planned : PlannedBoard) (sound : IsSound planned) (way : ℕ → ℕ → ℕ) (ways : AreWays planned.board.links way) where
  -- the wire's bit arrives no sooner than its net is usable and the way takes
  pub wire_late : (number : ℕ) (wire : Wire) → slice_get planned.plan.wires number ≡ Some wire
      → usable planned (home planned wire.net) wire.net + way (home planned wire.net) wire.to ≤ after_last planned.board.links wire.hops
  wire_late number wire stands =
      let routed : IsRouted planned wire = at_place (IsRouted planned) planned.plan.wires number wire sound.routes stands in
      let rising : IsRising planned wire = at_place (IsRising planned) planned.plan.wires number wire sound.rising_microcycles stands in
      let first : FirstHop planned wire = first_hop planned sound number wire stands in
      by_hops wire.hops first.at routed.leads rising.later routed.pins first.begins.ready
    where
      by_hops : (hops : List Hop) → {hop : Hop} → slice_get hops 0 ≡ Some hop → leads_to (home planned wire.net) hops wire.to ≡ true
          → rises planned.board.links hops ≡ true → All (λ one. has_pin planned.board.links one ≡ true) hops
          → usable planned (home planned wire.net) wire.net ≤ hop.at
          → usable planned (home planned wire.net) wire.net + way (home planned wire.net) wire.to ≤ after_last planned.board.links hops
      by_hops [] at leads rise pins ready = cc
      by_hops (first ∷ hops) {hop} at leads rise pins ready =
          let same : first ≡ hop = cc in
          let when : first.at ≡ hop.at = ap (λ (one : Hop). one.at) same in
          let late = hops_late planned.board way ways first hops (home planned wire.net) wire.to leads rise pins in
          omega (arith, late, when, ready)

  -- so a needed pair is there no sooner
  pub pair_late : (net node : ℕ) → is_needed planned.ordered.flat planned.plan.chip_of net node ≡ true
      → usable planned (home planned net) net + way (home planned net) node ≤ brought_at planned node net
  pair_late net node needed =
      let by : BroughtBy planned net node = brought_by planned sound net node needed in
      let late = wire_late by.number by.wire by.stands in
      let net_same : usable planned (home planned by.wire.net) by.wire.net ≡ usable planned (home planned net) net = ap (λ (own : ℕ). usable planned (home planned own) own) by.brought in
      let way_same : way (home planned by.wire.net) by.wire.to ≡ way (home planned net) node = ap (λ (own : ℕ). way (home planned own) by.wire.to) by.brought ∙ ap (way (home planned net)) by.to in
      omega (arith, late, net_same, way_same, by.there)

-- and it is there by the end of the period
pub pair_in_period : (planned : PlannedBoard) → IsSound planned → (net node : ℕ) → is_needed planned.ordered.flat planned.plan.chip_of net node ≡ true
    → brought_at planned node net ≤ planned.plan.period
pair_in_period planned sound net node needed =
    let by : BroughtBy planned net node = brought_by planned sound net node needed in
    let last : LastHop planned by.wire = last_hop planned sound by.number by.wire by.stands in
    let facts : HopFacts planned last.hop = hop_facts planned sound by.number last.place by.wire last.hop by.stands last.at in
    omega (arith, by.there, last.ends.brings, facts.within)
