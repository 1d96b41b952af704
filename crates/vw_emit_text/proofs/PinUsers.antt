-- The hops of a pin, in order, are its users.
use Rattle.std.proofs.Common.{◌≡◌, ◌∙◌, ◌++◌, ◌-◌, ◌<◌, ◌&&◌, ◌==◌, ℕ, zero, suc, Bool, true, false, cond, List, [], ◌∷◌, map, slice_get, Some, ap, ap₂, refl, sym, append-nil, eqb-true, eq-eqb, ne_eqb, true≢false, ⊎_elim, arith}
use Rattle.std.specs.List.{AllByRecursion, filter, flat_map}
use Rattle.std.proofs.lemmas.Bool.{cases_Bool}
use Rattle.std.proofs.lemmas.List.Concat.{flat_map_single}
use Rattle.std.proofs.lemmas.Option.{same_Some}
use Rattle.vw_net.specs.Gathered.{gather, listed}
use Rattle.vw_net.proofs.GatheredOrder.{has_key, keys_of, with_keys}
use Rattle.vw_net.proofs.ListedLists.{flat_map_listed, gather_agree, map_gather}
use Rattle.vw_net.proofs.SortedLists.{all_filter}
use Rattle.vw_plan.specs.Lead.{carries}
use Rattle.vw_plan.specs.PlannedBoard.{PlannedBoard}
use Rattle.vw_plan.specs.Sound.{IsSound}
use Rattle.vw_plan.specs.declared.link.Link.{Link}
use Rattle.vw_plan.specs.declared.wire.Hop.{Hop}
use Rattle.vw_plan.specs.declared.wire.Wire.{Wire}
use Rattle.vw_plan.proofs.HopLinks.{HopLink, hop_facts, one_link}
use Rattle.vw_prog.proofs.HopPlaces.{hop_place}
use Rattle.vw_prog.specs.Timetable.{link_of_hop}
use Rattle.vw_emit_text.specs.Outlets.{hops_of_wire, hops_of_wires, leaves_before, numbered_hop, numbered_hops}
use Rattle.vw_emit_text.specs.declared.numbered_hop.NumberedHop.{NumberedHop}
use Rattle.vw_emit_text.proofs.HopsByPins.{link_of, pin_of, time_of, wires_all}
use Rattle.vw_emit_hardware.specs.Items.{User, leaves_by, users, users_at}
use Rattle.vw_emit_hardware.specs.Locals.{held}
use Rattle.vw_emit_hardware.specs.Names.{name_at, sent_name}
use Rattle.vw_emit_text.proofs.Lists.{all_gather, flat_map_filter, listed_within}
use Rattle.vw_emit_text.specs.Steps.{local_sent}

-- ---- hops by their numbers

hops_listed_in : (links : List Link) (net wire number : ℕ) (hops : List Hop)
    → hops_of_wire links net wire number hops ≡ listed (λ k hop. numbered_hop links net wire k hop ∷ []) number hops
hops_listed_in links net wire number [] = refl
hops_listed_in links net wire number (hop ∷ hops) =
    ap (λ (rest : List NumberedHop). numbered_hop links net wire number hop ∷ rest) (hops_listed_in links net wire (suc number) hops)

-- the hops of a wire
abbrev pub of_wire : List Link → ℕ → Wire → List NumberedHop
of_wire links wire is = listed (λ k hop. numbered_hop links is.net wire k hop ∷ []) 0 is.hops

wires_listed : (links : List Link) (number : ℕ) (wires : List Wire) → hops_of_wires links number wires ≡ listed (of_wire links) number wires
wires_listed links number [] = refl
wires_listed links number (wire ∷ wires) =
    ap₂ (λ (first rest : List NumberedHop). first ++ rest) (hops_listed_in links wire.net number 0 wire.hops) (wires_listed links (suc number) wires)

pub hops_listed : (planned : PlannedBoard) → numbered_hops planned ≡ listed (of_wire planned.board.links) 0 planned.plan.wires
hops_listed planned = wires_listed planned.board.links 0 planned.plan.wires

-- what each hop gives, with its wire and the place in it
pub each_hop : {X : Type 0} (planned : PlannedBoard) (each : NumberedHop → List X) (other : ℕ → Wire → ℕ → Hop → List X)
    → ((number place : ℕ) (wire : Wire) (hop : Hop) → slice_get planned.plan.wires number ≡ Some wire → slice_get wire.hops place ≡ Some hop
    → (w k : ℕ) → each (numbered_hop planned.board.links wire.net w k hop) ≡ other w wire k hop)
    → flat_map each (numbered_hops planned) ≡ listed (λ w wire. listed (other w wire) 0 wire.hops) 0 planned.plan.wires
each_hop {X} planned each other same =
    ap (flat_map each) (hops_listed planned)
    ∙ flat_map_listed each (of_wire planned.board.links) 0 planned.plan.wires
    ∙ listed_within (λ w wire. flat_map each (of_wire planned.board.links w wire)) (λ w wire. listed (other w wire) 0 wire.hops) 0 planned.plan.wires
    (λ number wire there w.
    flat_map_listed each (λ k hop. numbered_hop planned.board.links wire.net w k hop ∷ []) 0 wire.hops
    ∙ listed_within (λ k hop. flat_map each (numbered_hop planned.board.links wire.net w k hop ∷ [])) (other w wire) 0 wire.hops
    (λ place hop is k. append-nil (each (numbered_hop planned.board.links wire.net w k hop)) ∙ same number place wire hop there is w k))

-- ---- the users of a pin

module _ (planned : PlannedBoard) where
  -- a hop as a user of its pin
  abbrev pub user_of : NumberedHop → User
  user_of hop = record { at = hop.at; name = local_sent planned hop }

  -- the hops of a pin, in order
  abbrev pub block : ℕ → ℕ → List NumberedHop
  block link pin = gather (with_keys link_of pin_of time_of (numbered_hops planned) link pin) planned.plan.period

  sent_same : (wire place : ℕ) (is : Wire) (hop : Hop)
      → local_sent planned (numbered_hop planned.board.links is.net wire place hop) ≡ sent_name planned wire is place hop
  sent_same wire zero is hop = refl
  sent_same wire (suc before) is hop =
      let other = ne_eqb (suc before) 0 (λ same. omega (arith, same)) in
      let one : suc before - 1 ≡ before = omega arith in
      ap (λ (test : Bool). cond test (name_at planned hop.from is.net) (held wire (suc before - 1))) other ∙ ap (held wire) one

  module _ (sound : IsSound planned) (number : ℕ) (link : Link) (there : slice_get planned.board.links number ≡ Some link) where
    -- the link of a hop, by its number or by its ends
    pub same_link : (hop : Hop) → HopLink planned.board hop → (link_of_hop planned.board.links hop == number) ≡ carries hop link
    same_link hop own = ⊎_elim if_here if_not (cases_Bool (carries hop link)) where
      if_here : carries hop link ≡ true → (link_of_hop planned.board.links hop == number) ≡ carries hop link
      if_here is = eq-eqb (link_of_hop planned.board.links hop) number (hop_place planned.board hop own ∙ sym (one_link planned.board hop own number link there is)) ∙ sym is

      if_not : carries hop link ≡ false → (link_of_hop planned.board.links hop == number) ≡ carries hop link
      if_not is = ne_eqb (link_of_hop planned.board.links hop) number (λ same.
          let place : own.number ≡ number = sym (hop_place planned.board hop own) ∙ same in
          let links : own.link ≡ link = same_Some own.link link (sym own.there ∙ ap (slice_get planned.board.links) place ∙ there) in
          true≢false (sym own.carried ∙ ap (carries hop) links ∙ is)) ∙ sym is

    -- the users in one microcycle
    module _ (pin at : ℕ) where
      picked : NumberedHop → List User
      picked hop = cond (has_key link_of number hop) (cond (has_key pin_of pin hop) (cond (has_key time_of at hop) (user_of hop ∷ []) []) []) []

      picked_same : (own by now : Bool) (one other : User) → (now ≡ true → one ≡ other)
          → cond own (cond by (cond now (one ∷ []) []) []) [] ≡ cond (own && (by && now)) (other ∷ []) []
      picked_same true true true one other same = ap (λ (user : User). user ∷ []) (same refl)
      picked_same true true false one other same = refl
      picked_same true false now one other same = refl
      picked_same false by now one other same = refl

      users_now : map user_of (with_keys link_of pin_of time_of (numbered_hops planned) number pin at) ≡ users_at planned link pin at
      unfolding picked
      users_now =
          let all = numbered_hops planned in
          let of_link = filter (has_key link_of number) all in
          let of_pin = filter (has_key pin_of pin) of_link in
          let now = λ (hop : NumberedHop). cond (has_key time_of at hop) (user_of hop ∷ []) [] in
          let by = λ (hop : NumberedHop). cond (has_key pin_of pin hop) (now hop) [] in
          sym (flat_map_single user_of (filter (has_key time_of at) of_pin))
          ∙ flat_map_filter (λ hop. user_of hop ∷ []) (has_key time_of at) of_pin
          ∙ flat_map_filter now (has_key pin_of pin) of_link
          ∙ flat_map_filter by (has_key link_of number) all
          ∙ each_hop planned picked (λ w wire k hop. cond (leaves_by link pin at hop) (record { at = at; name = sent_name planned w wire k hop } ∷ []) []) same where
            same : (n place : ℕ) (wire : Wire) (hop : Hop) → slice_get planned.plan.wires n ≡ Some wire → slice_get wire.hops place ≡ Some hop → (w k : ℕ)
                → picked (numbered_hop planned.board.links wire.net w k hop) ≡ cond (leaves_by link pin at hop) (record { at = at; name = sent_name planned w wire k hop } ∷ []) []
            same n place wire hop in_plan is w k =
                let own = (hop_facts planned sound n place wire hop in_plan is).over in
                let user = user_of (numbered_hop planned.board.links wire.net w k hop) in
                ap (λ (test : Bool). cond test (cond (hop.pin == pin) (cond (hop.at == at) (user ∷ []) []) []) []) (same_link hop own)
                ∙ picked_same (carries hop link) (hop.pin == pin) (hop.at == at) user (record { at = at; name = sent_name planned w wire k hop })
                (λ passes. let time : hop.at ≡ at = eqb-true hop.at at passes in
                let name = sent_same w k wire hop in λ i. record { at = time i; name = name i })

    -- and all of them
    pub users_are : (pin : ℕ) → map user_of (block number pin) ≡ users planned link pin
    users_are pin =
        map_gather user_of (with_keys link_of pin_of time_of (numbered_hops planned) number pin) planned.plan.period
        ∙ gather_agree (λ at. map user_of (with_keys link_of pin_of time_of (numbered_hops planned) number pin at)) (users_at planned link pin) planned.plan.period (λ at below. users_now pin at)

  -- ---- what is known of each of these hops

  -- they are of that pin
  pub of_block : (P : NumberedHop → Type 0) → AllByRecursion P (numbered_hops planned) → (link pin : ℕ) → AllByRecursion P (block link pin)
  of_block P all link pin =
      all_gather P (with_keys link_of pin_of time_of (numbered_hops planned) link pin) planned.plan.period
      (λ at. all_filter leaves_before P (has_key time_of at) (filter (has_key pin_of pin) (filter (has_key link_of link) (numbered_hops planned)))
      (all_filter leaves_before P (has_key pin_of pin) (filter (has_key link_of link) (numbered_hops planned)) (all_filter leaves_before P (has_key link_of link) (numbered_hops planned) all)))

  pub links_of_block : (link pin : ℕ) → AllByRecursion (λ hop. hop.link ≡ link) (block link pin)
  links_of_block link pin =
      all_gather (λ hop. hop.link ≡ link) (with_keys link_of pin_of time_of (numbered_hops planned) link pin) planned.plan.period
      (λ at. all_filter leaves_before (λ hop. hop.link ≡ link) (has_key time_of at) (filter (has_key pin_of pin) (filter (has_key link_of link) (numbered_hops planned)))
      (all_filter leaves_before (λ hop. hop.link ≡ link) (has_key pin_of pin) (filter (has_key link_of link) (numbered_hops planned)) (keys_of link_of link (numbered_hops planned))))

  pub pins_of_block : (link pin : ℕ) → AllByRecursion (λ hop. hop.pin ≡ pin) (block link pin)
  pins_of_block link pin =
      all_gather (λ hop. hop.pin ≡ pin) (with_keys link_of pin_of time_of (numbered_hops planned) link pin) planned.plan.period
      (λ at. all_filter leaves_before (λ hop. hop.pin ≡ pin) (has_key time_of at) (filter (has_key pin_of pin) (filter (has_key link_of link) (numbered_hops planned)))
      (keys_of pin_of pin (filter (has_key link_of link) (numbered_hops planned))))

  -- by their link's number: its ends, its delay and its width
  pub record GoesOver (link : Link) (hop : NumberedHop) : Type 0 where
    pub from : hop.from ≡ link.from
    pub to : hop.to ≡ link.to
    pub late : hop.arrival - hop.at ≡ link.delay - 1
    pub pin : hop.pin < link.width

  abbrev pub Known : NumberedHop → Type 0
  Known hop = (number : ℕ) (link : Link) → slice_get planned.board.links number ≡ Some link → hop.link ≡ number → GoesOver link hop

  pub all_known : IsSound planned → AllByRecursion Known (numbered_hops planned)
  all_known sound = wires_all Known planned.board.links 0 planned.plan.wires known where
    known : (w k n place : ℕ) (wire : Wire) (hop : Hop) → slice_get planned.plan.wires n ≡ Some wire → slice_get wire.hops place ≡ Some hop
        → Known (numbered_hop planned.board.links wire.net w k hop)
    known w k n place wire hop in_plan is = λ number link there same.
        let own = (hop_facts planned sound n place wire hop in_plan is).over in
        let numbers : own.number ≡ number = sym (hop_place planned.board hop own) ∙ same in
        let links : own.link ≡ link = same_Some own.link link (sym own.there ∙ ap (slice_get planned.board.links) numbers ∙ there) in
        let delays : own.link.delay ≡ link.delay = ap (λ (one : Link). one.delay) links in
        let widths : own.link.width ≡ link.width = ap (λ (one : Link). one.width) links in
        record {
          from = sym own.from ∙ ap (λ (one : Link). one.from) links;
          to = sym own.to ∙ ap (λ (one : Link). one.to) links;
          late = omega (arith, own.arrives, own.lags, delays);
          pin = omega (arith, own.pin, widths);
        }
