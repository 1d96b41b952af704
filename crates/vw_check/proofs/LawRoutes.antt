-- The faults of routes, pins and microcycles, and the points of a sound plan that they break.
use Rattle.std.proofs.Common.{◌≡◌, ◌==◌, ◌<◌, ◌&&◌, ℕ, zero, suc, Bool, true, false, List, [], ◌∷◌, length, Some, None, nat_lt, refl, sym, subst, ◌∙◌, All, get_or, ⊎_elim, true≢false, arith, if◌then◌else◌}
use Rattle.std.specs.List.{list_any}
use Rattle.std.proofs.lemmas.Bool.{and_parts, or_cases, or_left, or_right, ltb-true, lt-ltb, ne_eqb}
use Rattle.std.proofs.lemmas.Option.{none-some}
use Rattle.std.proofs.lemmas.List.Elements.{All-weaker}
use Rattle.vw_plan.specs.declared.link.Link.{Link}
use Rattle.vw_plan.specs.declared.board.Board.{Board}
use Rattle.vw_plan.specs.declared.plan.Plan.{Plan}
use Rattle.vw_plan.specs.declared.wire.Hop.{Hop}
use Rattle.vw_plan.specs.declared.wire.Wire.{Wire}
use Rattle.vw_plan.specs.PlannedBoard.{PlannedBoard, home}
use Rattle.vw_plan.specs.Lead.{arrival}
use Rattle.vw_plan.specs.Sound.{has_pin, IsRouted, IsRising}
use Rattle.vw_plan.specs.Walks.{has_link}
use Rattle.vw_check.specs.declared.fault.PlanFault.{PlanFault}
use Rattle.vw_check.specs.declared.fault.PlanFault.TheVariants.{BrokenRoute, BadPin, OutOfOrder, PastPeriod}
use Rattle.vw_net.specs.FirstFound.{first_at, found_unless}
use Rattle.vw_check.specs.HopFaults.{broken_wire, broken_route, bad_pin, is_later, out_of_order, past_period}
use Rattle.vw_check.specs.Answers.{Breaks}
use Rattle.vw_net.proofs.FirstFound.{EachAt, each_none, none_each, each_to, each_all, all_each, unless_none, none_unless, first_is, unless_is}
use Rattle.vw_check.proofs.LawHops.{hop_goes_on, leads_from_goes, goes_from_leads, rises_from_later, later_from_rises, Passes, each_passes, passes_none, search_is}

any_weaker : {X : Type 0} (p q : X → Bool) → ((x : X) → p x ≡ true → q x ≡ true) → (xs : List X) → list_any p xs ≡ true → list_any q xs ≡ true
any_weaker p q step [] is = absurd (true≢false (sym is))
any_weaker p q step (x ∷ xs) is = ⊎_elim (λ (here : p x ≡ true). or_left (q x) (list_any q xs) (step x here)) (λ (there : list_any p xs ≡ true). or_right (q x) (list_any q xs) (any_weaker p q step xs there)) (or_cases (p x) (list_any p xs) is)

pin_link : (links : List Link) (hop : Hop) → has_pin links hop ≡ true → has_link links hop.from hop.to ≡ true
pin_link links hop is =
    any_weaker (λ link. (link.from == hop.from && link.to == hop.to) && nat_lt hop.pin link.width) (λ link. link.from == hop.from && link.to == hop.to)
    (λ link both. (and_parts (link.from == hop.from && link.to == hop.to) (nat_lt hop.pin link.width) both).0) links is

module _ (planned : PlannedBoard) where
  abbrev plan : Plan
  plan = planned.plan

  abbrev board : Board
  board = planned.board

  -- ---- routes

  record Goes (wire : Wire) : Type 0 where
    some : 0 < length wire.hops
    each : EachAt (λ place hop. hop_goes_on board.links (home planned wire.net) wire.hops wire.to place hop ≡ true) 0 wire.hops

  wire_goes : (number : ℕ) (wire : Wire) → (empty : Bool) → (length wire.hops == 0) ≡ empty
      → (if empty then Some (BrokenRoute number 0) else first_at (λ place hop. found_unless (hop_goes_on board.links (home planned wire.net) wire.hops wire.to place hop) (BrokenRoute number place)) 0 wire.hops) ≡ None
      → Goes wire
  wire_goes number wire true is none = absurd (none-some (BrokenRoute number 0) (sym none))
  wire_goes number wire false is none = record {
    some = some_hops (length wire.hops) is;
    each = each_to (λ place hop. found_unless (hop_goes_on board.links (home planned wire.net) wire.hops wire.to place hop) (BrokenRoute number place) ≡ None) (λ place hop. hop_goes_on board.links (home planned wire.net) wire.hops wire.to place hop ≡ true)
        (λ place hop got. unless_none (hop_goes_on board.links (home planned wire.net) wire.hops wire.to place hop) (BrokenRoute number place) got) 0 wire.hops
        (each_none (λ place hop. found_unless (hop_goes_on board.links (home planned wire.net) wire.hops wire.to place hop) (BrokenRoute number place)) 0 wire.hops none);
  } where
    some_hops : (n : ℕ) → (n == 0) ≡ false → 0 < n
    some_hops zero its = absurd (true≢false its)
    some_hops (suc n) its = omega arith

  goes_wire : (number : ℕ) (wire : Wire) → Goes wire → broken_wire planned number wire ≡ None
  goes_wire number wire goes_on =
      let some : (length wire.hops == 0) ≡ false = ne_eqb (length wire.hops) 0 (λ is. let wrong : 0 < 0 = subst (λ (n : ℕ). 0 < n) is goes_on.some in omega (arith, wrong)) in
      rw some (none_each (λ place hop. found_unless (hop_goes_on board.links (home planned wire.net) wire.hops wire.to place hop) (BrokenRoute number place)) 0 wire.hops
      (each_to (λ place hop. hop_goes_on board.links (home planned wire.net) wire.hops wire.to place hop ≡ true) (λ place hop. found_unless (hop_goes_on board.links (home planned wire.net) wire.hops wire.to place hop) (BrokenRoute number place) ≡ None)
      (λ place hop got. none_unless (hop_goes_on board.links (home planned wire.net) wire.hops wire.to place hop) (BrokenRoute number place) got) 0 wire.hops goes_on.each))

  all_go : broken_route planned ≡ None → All Goes plan.wires
  all_go none =
      each_all Goes 0 plan.wires
      (each_to (λ number wire. broken_wire planned number wire ≡ None) (λ number wire. Goes wire) (λ number wire is. wire_goes number wire (length wire.hops == 0) refl is) 0 plan.wires
      (each_none (broken_wire planned) 0 plan.wires none))

  pins_pass : bad_pin board plan ≡ None → All (Passes plan (λ wire place hop. has_pin board.links hop) BadPin) plan.wires
  pins_pass none = each_passes plan (λ wire place hop. has_pin board.links hop) BadPin none

  pub routed : broken_route planned ≡ None → bad_pin board plan ≡ None → All (IsRouted planned) plan.wires
  routed route pins i default below =
      let its = all_go route i default below in
      let wire = get_or plan.wires i default in record {
        some = its.some;
        leads = leads_from_goes board.links (home planned wire.net) wire.to wire.hops its.some its.each;
        pins = each_all (λ hop. has_pin board.links hop ≡ true) 0 wire.hops (pins_pass pins i default below);
      }

  pub no_broken_route : All (IsRouted planned) plan.wires → broken_route planned ≡ None
  no_broken_route all =
      none_each (broken_wire planned) 0 plan.wires
      (each_to (λ number wire. IsRouted planned wire) (λ number wire. broken_wire planned number wire ≡ None)
      (λ number wire its. goes_wire number wire (record {
        some = its.some;
        each = goes_from_leads board.links (home planned wire.net) wire.to wire.hops its.leads (All-weaker (λ hop. has_pin board.links hop ≡ true) (λ hop. has_link board.links hop.from hop.to ≡ true) (λ hop got. pin_link board.links hop got) wire.hops its.pins);
      })) 0 plan.wires
      (all_each (IsRouted planned) 0 plan.wires all))

  pub no_bad_pin : All (IsRouted planned) plan.wires → bad_pin board plan ≡ None
  no_bad_pin all =
      passes_none plan (λ wire place hop. has_pin board.links hop) BadPin
      (All-weaker (IsRouted planned) (Passes plan (λ wire place hop. has_pin board.links hop) BadPin) (λ wire its. all_each (λ hop. has_pin board.links hop ≡ true) 0 wire.hops its.pins) plan.wires all)

  -- ---- microcycles

  pub rising : out_of_order board plan ≡ None → past_period board plan ≡ None → All (IsRising planned) plan.wires
  rising order period i default below =
      let wire = get_or plan.wires i default in record {
        later = rises_from_later board.links wire.hops (each_passes plan (λ one place hop. is_later board.links one.hops place hop) OutOfOrder order i default below);
        within = All-weaker (λ hop. nat_lt (arrival board.links hop) plan.period ≡ true) (λ hop. arrival board.links hop < plan.period) (λ hop got. ltb-true (arrival board.links hop) plan.period got) wire.hops
            (each_all (λ hop. nat_lt (arrival board.links hop) plan.period ≡ true) 0 wire.hops (each_passes plan (λ one place hop. nat_lt (arrival board.links hop) plan.period) PastPeriod period i default below));
      }

  pub no_out_of_order : All (IsRising planned) plan.wires → out_of_order board plan ≡ None
  no_out_of_order all =
      passes_none plan (λ one place hop. is_later board.links one.hops place hop) OutOfOrder
      (All-weaker (IsRising planned) (Passes plan (λ one place hop. is_later board.links one.hops place hop) OutOfOrder) (λ wire its. later_from_rises board.links wire.hops its.later) plan.wires all)

  pub no_past_period : All (IsRising planned) plan.wires → past_period board plan ≡ None
  no_past_period all =
      passes_none plan (λ one place hop. nat_lt (arrival board.links hop) plan.period) PastPeriod
      (All-weaker (IsRising planned) (Passes plan (λ one place hop. nat_lt (arrival board.links hop) plan.period) PastPeriod)
      (λ wire its. all_each (λ hop. nat_lt (arrival board.links hop) plan.period ≡ true) 0 wire.hops (All-weaker (λ hop. arrival board.links hop < plan.period) (λ hop. nat_lt (arrival board.links hop) plan.period ≡ true) (λ hop got. lt-ltb (arrival board.links hop) plan.period got) wire.hops its.within)) plan.wires all)

  -- ---- what the faults break

  broken_is : (P : PlanFault → Type 0) → ((number place : ℕ) → P (BrokenRoute number place)) → (number : ℕ) (wire : Wire) (found : PlanFault) → (empty : Bool)
      → (if empty then Some (BrokenRoute number 0) else first_at (λ place hop. found_unless (hop_goes_on board.links (home planned wire.net) wire.hops wire.to place hop) (BrokenRoute number place)) 0 wire.hops) ≡ Some found
      → P found
  broken_is P each number wire found true is = let same : BrokenRoute number 0 ≡ found = cc in subst P same (each number 0)
  broken_is P each number wire found false is =
      first_is (λ place hop. found_unless (hop_goes_on board.links (home planned wire.net) wire.hops wire.to place hop) (BrokenRoute number place)) P
      (λ place hop other its. subst P (unless_is (hop_goes_on board.links (home planned wire.net) wire.hops wire.to place hop) (BrokenRoute number place) other its) (each number place)) 0 wire.hops found is

  pub broken_route_breaks : (fault : PlanFault) → broken_route planned ≡ Some fault → Breaks planned fault
  broken_route_breaks fault is =
      first_is (broken_wire planned) (Breaks planned)
      (λ number wire found its. broken_is (Breaks planned) (λ one place sound. none-some fault (sym (no_broken_route sound) ∙ is)) number wire found (length wire.hops == 0) its) 0 plan.wires fault is

  pub bad_pin_breaks : (fault : PlanFault) → bad_pin board plan ≡ Some fault → Breaks planned fault
  bad_pin_breaks fault is =
      search_is plan (λ wire place hop. has_pin board.links hop) BadPin (Breaks planned) (λ number place sound. none-some fault (sym (no_bad_pin sound) ∙ is)) fault is

  pub out_of_order_breaks : (fault : PlanFault) → out_of_order board plan ≡ Some fault → Breaks planned fault
  out_of_order_breaks fault is =
      search_is plan (λ one place hop. is_later board.links one.hops place hop) OutOfOrder (Breaks planned) (λ number place sound. none-some fault (sym (no_out_of_order sound) ∙ is)) fault is

  pub past_period_breaks : (fault : PlanFault) → past_period board plan ≡ Some fault → Breaks planned fault
  past_period_breaks fault is =
      search_is plan (λ one place hop. nat_lt (arrival board.links hop) plan.period) PastPeriod (Breaks planned) (λ number place sound. none-some fault (sym (no_past_period sound) ∙ is)) fault is
