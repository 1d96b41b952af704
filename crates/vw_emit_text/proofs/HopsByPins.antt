-- The hops of a sound plan by the pins by which they leave: for each link, each pin and each microcycle, the hop that is there.
use Rattle.std.proofs.Common.{◌≡◌, ◌<◌, ◌≤◌, ◌⊎◌, inl, inr, ◌++◌, ◌∙◌, ℕ, suc, Bool, true, false, cond, List, [], ◌∷◌, length, slice_get, Some, refl, sym, arith}
use Rattle.std.specs.List.{AllByRecursion, filter}
use Rattle.std.proofs.lemmas.Option.{slice_get_within}
use Rattle.vw_net.specs.Sorting.{sorted}
use Rattle.vw_net.proofs.GatheredOrder.{gathered_by_keys, has_key, keys_of, sorted_is_gathered, with_keys}
use Rattle.vw_net.proofs.ListParts.{all_append}
use Rattle.vw_net.proofs.SortedLists.{Rises, all_filter}
use Rattle.vw_plan.specs.declared.link.Link.{Link}
use Rattle.vw_plan.specs.declared.wire.Hop.{Hop}
use Rattle.vw_plan.specs.declared.wire.Wire.{Wire}
use Rattle.vw_plan.specs.PlannedBoard.{PlannedBoard}
use Rattle.vw_plan.specs.Sound.{IsSound}
use Rattle.vw_plan.proofs.HopLinks.{hop_facts}
use Rattle.vw_plan.proofs.HopsOfWires.{at_place}
use Rattle.vw_prog.proofs.HopPlaces.{hop_place}
use Rattle.vw_emit_text.specs.declared.numbered_hop.NumberedHop.{NumberedHop}
use Rattle.vw_emit_text.specs.Outlets.{hops_of_wire, hops_of_wires, leaves_before, numbered_hop, numbered_hops}
use Rattle.vw_emit_text.proofs.HopOrder.{earlier_hop, earlier_wire, is_order, lower_link, lower_pin}

-- ---- what holds of each numbered hop

-- those of one wire
pub hops_all : (P : NumberedHop → Type 0) (links : List Link) (net wire number : ℕ) (hops : List Hop) → ((k place : ℕ) (hop : Hop) → slice_get hops place ≡ Some hop → P (numbered_hop links net wire k hop))
    → AllByRecursion P (hops_of_wire links net wire number hops)
hops_all P links net wire number [] each = tt
hops_all P links net wire number (hop ∷ hops) each = (each number 0 hop refl, hops_all P links net wire (suc number) hops (λ k place other is. each k (suc place) other is))

-- those of all wires
pub wires_all : (P : NumberedHop → Type 0) (links : List Link) (number : ℕ) (wires : List Wire)
    → ((w k at place : ℕ) (wire : Wire) (hop : Hop) → slice_get wires at ≡ Some wire → slice_get wire.hops place ≡ Some hop → P (numbered_hop links wire.net w k hop)) → AllByRecursion P (hops_of_wires links number wires)
wires_all P links number [] each = tt
wires_all P links number (wire ∷ wires) each =
    all_append P (hops_of_wire links wire.net number 0 wire.hops) (hops_of_wires links (suc number) wires)
    (hops_all P links wire.net number 0 wire.hops (λ k place hop is. each number k 0 place wire hop refl is))
    (wires_all P links (suc number) wires (λ w k at place other hop there is. each w k (suc at) place other hop there is))

-- ---- they stand by wire, and then in the order in which they are made

-- a hop comes before another one: its wire does, or it does in one wire
abbrev ComesFirst : NumberedHop → NumberedHop → Type 0
ComesFirst one other = (one.wire < other.wire) ⊎ ((one.wire ≡ other.wire) × (one.hop < other.hop))

-- each hop comes before those behind it
abbrev AreInTurn : List NumberedHop → Type 0
AreInTurn [] = Unit {0}
AreInTurn (hop ∷ hops) = AllByRecursion (ComesFirst hop) hops × AreInTurn hops

-- a hop comes before further hops of its wire
later_hops : (one : NumberedHop) (links : List Link) (net wire number : ℕ) (hops : List Hop) → one.wire ≡ wire → one.hop < number → AllByRecursion (ComesFirst one) (hops_of_wire links net wire number hops)
later_hops one links net wire number [] same less = tt
later_hops one links net wire number (hop ∷ hops) same less = (inr (same, less), later_hops one links net wire (suc number) hops same (omega (arith, less)))

-- and before those of further wires
later_wires : (one : NumberedHop) (links : List Link) (number : ℕ) (wires : List Wire) → one.wire < number → AllByRecursion (ComesFirst one) (hops_of_wires links number wires)
later_wires one links number [] less = tt
later_wires one links number (wire ∷ wires) less =
    all_append (ComesFirst one) (hops_of_wire links wire.net number 0 wire.hops) (hops_of_wires links (suc number) wires)
    (hops_all (ComesFirst one) links wire.net number 0 wire.hops (λ k place hop is. inl less))
    (later_wires one links (suc number) wires (omega (arith, less)))

-- the hops of a wire are in turn
hop_turns : (links : List Link) (net wire number : ℕ) (hops : List Hop) → AreInTurn (hops_of_wire links net wire number hops)
hop_turns links net wire number [] = tt
hop_turns links net wire number (hop ∷ hops) =
    (later_hops (numbered_hop links net wire number hop) links net wire (suc number) hops refl (omega arith), hop_turns links net wire (suc number) hops)

-- hops in turn, behind hops that come before all of them
turns_append : (xs ys : List NumberedHop) → AreInTurn xs → AreInTurn ys → AllByRecursion (λ x. AllByRecursion (ComesFirst x) ys) xs → AreInTurn (xs ++ ys)
turns_append [] ys turns others cross = others
turns_append (x ∷ xs) ys turns others cross = (all_append (ComesFirst x) xs ys turns.0 cross.0, turns_append xs ys turns.1 others cross.1)

-- so the hops of all wires are in turn
wire_turns : (links : List Link) (number : ℕ) (wires : List Wire) → AreInTurn (hops_of_wires links number wires)
wire_turns links number [] = tt
wire_turns links number (wire ∷ wires) =
    let rest = hops_of_wires links (suc number) wires in
    turns_append (hops_of_wire links wire.net number 0 wire.hops) rest (hop_turns links wire.net number 0 wire.hops) (wire_turns links (suc number) wires)
    (hops_all (λ x. AllByRecursion (ComesFirst x) rest) links wire.net number 0 wire.hops (λ k place hop is. later_wires (numbered_hop links wire.net number k hop) links (suc number) wires (omega arith)))

-- and so are those that pass a test
turns_filter : (test : NumberedHop → Bool) (xs : List NumberedHop) → AreInTurn xs → AreInTurn (filter test xs)
turns_filter test [] turns = tt
turns_filter test (x ∷ xs) turns = elim (test x) as (λ keeps. AreInTurn (cond keeps (x ∷ filter test xs) (filter test xs))) [
  | true ↦ (all_filter leaves_before (ComesFirst x) test xs turns.0, turns_filter test xs turns.1)
  | false ↦ turns_filter test xs turns.1
]

-- so those of one pin and one microcycle are in order already
own_rise : (link pin at : ℕ) (xs : List NumberedHop) → AreInTurn xs → AllByRecursion (λ x. x.link ≡ link) xs → AllByRecursion (λ x. x.pin ≡ pin) xs → AllByRecursion (λ x. x.at ≡ at) xs → Rises leaves_before xs
own_rise link pin at [] turns links pins times = tt
own_rise link pin at (x ∷ xs) turns links pins times = (none xs turns.0 links.1 pins.1 times.1, own_rise link pin at xs turns.1 links.1 pins.1 times.1) where
  none : (ys : List NumberedHop) → AllByRecursion (ComesFirst x) ys → AllByRecursion (λ y. y.link ≡ link) ys → AllByRecursion (λ y. y.pin ≡ pin) ys → AllByRecursion (λ y. y.at ≡ at) ys → AllByRecursion (λ y. leaves_before y x ≡ false) ys
  none [] later its two three = tt
  none (y ∷ ys) later its two three = (is_order.one_way x y (earlier_wire x y (links.0 ∙ sym its.0) (pins.0 ∙ sym two.0) (times.0 ∙ sym three.0) later.0), none ys later.1 its.1 two.1 three.1)

-- ---- the hops in order

-- the link of a hop
abbrev pub link_of : NumberedHop → ℕ
link_of hop = hop.link

-- the pin
abbrev pub pin_of : NumberedHop → ℕ
pin_of hop = hop.pin

-- the microcycle
abbrev pub time_of : NumberedHop → ℕ
time_of hop = hop.at

module _ (planned : PlannedBoard) (sound : IsSound planned) where
  -- these are in range
  pub links_few : AllByRecursion (λ hop. hop.link < length planned.board.links) (numbered_hops planned)
  links_few =
      wires_all (λ hop. hop.link < length planned.board.links) planned.board.links 0 planned.plan.wires (λ w k at place wire hop there is.
      let over = (hop_facts planned sound at place wire hop there is).over in
      omega (arith, hop_place planned.board hop over, slice_get_within planned.board.links over.number over.link over.there))

  -- no link has more than 64 pins
  pub pins_few : AllByRecursion (λ hop. hop.pin < 64) (numbered_hops planned)
  pins_few =
      wires_all (λ hop. hop.pin < 64) planned.board.links 0 planned.plan.wires (λ w k at place wire hop there is.
      let over = (hop_facts planned sound at place wire hop there is).over in
      let wide = at_place (λ (link : Link). (1 ≤ link.width) × (link.width ≤ 64)) planned.board.links over.number over.link planned.board.linked.separate.wide over.there in
      omega (arith, over.pin, wide.1))

  -- each hop is sent within the period
  pub times_few : AllByRecursion (λ hop. hop.at < planned.plan.period) (numbered_hops planned)
  times_few = wires_all (λ hop. hop.at < planned.plan.period) planned.board.links 0 planned.plan.wires (λ w k at place wire hop there is. (hop_facts planned sound at place wire hop there is).sent)

  -- for each link, each pin and each microcycle the hops that are there
  pub hops_by_pins : sorted leaves_before (numbered_hops planned)
      ≡ gathered_by_keys link_of pin_of time_of (length planned.board.links) 64 planned.plan.period (numbered_hops planned)
  hops_by_pins = sorted_is_gathered leaves_before is_order link_of pin_of time_of lower_link lower_pin earlier_hop (length planned.board.links) 64 planned.plan.period (numbered_hops planned) links_few pins_few times_few ties where
    ties : (i j k : ℕ) → Rises leaves_before (with_keys link_of pin_of time_of (numbered_hops planned) i j k)
    ties i j k =
        let all = numbered_hops planned in
        let own = filter (has_key link_of i) all in
        let both = filter (has_key pin_of j) own in
        let turns = turns_filter (has_key time_of k) both (turns_filter (has_key pin_of j) own (turns_filter (has_key link_of i) all (wire_turns planned.board.links 0 planned.plan.wires))) in
        own_rise i j k (filter (has_key time_of k) both) turns
        (all_filter leaves_before (λ x. x.link ≡ i) (has_key time_of k) both (all_filter leaves_before (λ x. x.link ≡ i) (has_key pin_of j) own (keys_of link_of i all)))
        (all_filter leaves_before (λ x. x.pin ≡ j) (has_key time_of k) both (keys_of pin_of j own))
        (keys_of time_of k both)
