-- The faults of hops, and the points of a sound plan that they break.
use Rattle.std.proofs.Common.{◌≡◌, ◌==◌, ◌<◌, ◌≤◌, ◌+◌, ◌&&◌, ◌||◌, ℕ, zero, suc, Bool, true, false, List, [], ◌∷◌, length, Option, Some, None, nat_lt, slice_get, refl, sym, subst, ◌∙◌, ap₂, All, arith}
use Rattle.std.specs.Option.{option_map_or}
use Rattle.std.proofs.lemmas.Bool.{and_parts, and_from, or_left, ltb-true, ltb-false, lt-ltb, le-ltb}
use Rattle.std.proofs.lemmas.List.Elements.{All-head, All-tail}
use Rattle.vw_plan.specs.declared.link.Link.{Link}
use Rattle.vw_plan.specs.declared.plan.Plan.{Plan}
use Rattle.vw_plan.specs.declared.wire.Hop.{Hop}
use Rattle.vw_plan.specs.declared.wire.Wire.{Wire}
use Rattle.vw_plan.specs.Lead.{arrival}
use Rattle.vw_plan.specs.Sound.{leads_to, rises}
use Rattle.vw_plan.specs.Walks.{has_link}
use Rattle.vw_check.specs.declared.fault.PlanFault.{PlanFault}
use Rattle.vw_net.specs.FirstFound.{first_at, found_unless}
use Rattle.vw_check.specs.HopFaults.{first_hop, begins_at, is_later}
use Rattle.vw_net.proofs.FirstFound.{EachAt, each_none, none_each, each_to, each_all, all_each, unless_none, none_unless, first_is, unless_is}

-- ---- from one numbering to the next

each_shift : {X : Type 0} (P Q : ℕ → X → Type 0) (number : ℕ) (xs : List X)
    → ((k : ℕ) (x : X) → k < number + length xs → P (suc k) x → Q k x) → EachAt P (suc number) xs → EachAt Q number xs
each_shift P Q number [] step each = tt
each_shift P Q number (x ∷ xs) step each =
    (step number x (omega arith) each.0, each_shift P Q (suc number) xs (λ k y below. step k y (omega arith)) each.1)

each_unshift : {X : Type 0} (P Q : ℕ → X → Type 0) (number : ℕ) (xs : List X)
    → ((k : ℕ) (x : X) → number ≤ k → k < number + length xs → Q k x → P (suc k) x) → EachAt Q number xs → EachAt P (suc number) xs
each_unshift P Q number [] step each = tt
each_unshift P Q number (x ∷ xs) step each =
    (step number x (omega arith) (omega arith) each.0, each_unshift P Q (suc number) xs (λ k y above below. step k y (omega arith) (omega arith)) each.1)

lt_suc : (a b : ℕ) → nat_lt (suc a) (suc b) ≡ nat_lt a b
lt_suc a b = by (nat_lt a b) refl where
  by : (is : Bool) → nat_lt a b ≡ is → nat_lt (suc a) (suc b) ≡ nat_lt a b
  by true is = lt-ltb (suc a) (suc b) (omega (arith, ltb-true a b is)) ∙ sym is
  by false is = le-ltb (suc a) (suc b) (omega (arith, ltb-false a b is)) ∙ sym is

-- ---- routes: hop by hop, and as a whole

-- what stands in the list doesn't depend on what is said of the rest
end_of : (hops : List Hop) (number one other : ℕ) → number < length hops
    → option_map_or (λ before. before.to) (slice_get hops number) one ≡ option_map_or (λ before. before.to) (slice_get hops number) other
end_of [] number one other within = absurd (omega arith)
end_of (hop ∷ hops) zero one other within = refl
end_of (hop ∷ hops) (suc number) one other within = end_of hops number one other (omega arith)

-- behind one hop more
begins_later : (from : ℕ) (hop : Hop) (hops : List Hop) (number : ℕ) → number < length hops
    → begins_at from (hop ∷ hops) (suc number) ≡ begins_at hop.to hops number
begins_later from hop hops zero within = refl
begins_later from hop hops (suc number) within = end_of hops number from hop.to (omega arith)

abbrev pub hop_goes_on : List Link → ℕ → List Hop → ℕ → ℕ → Hop → Bool
hop_goes_on links from hops to number hop =
    (hop.from == begins_at from hops number && has_link links hop.from hop.to) && (nat_lt (suc number) (length hops) || hop.to == to)

goes_later : (links : List Link) (from to : ℕ) (first : Hop) (hops : List Hop) (number : ℕ) (hop : Hop) → number < length hops
    → hop_goes_on links from (first ∷ hops) to (suc number) hop ≡ hop_goes_on links first.to hops to number hop
goes_later links from to first hops number hop within =
    ap₂ (λ (start : ℕ) (more : Bool). (hop.from == start && has_link links hop.from hop.to) && (more || hop.to == to)) (begins_later from first hops number within) (lt_suc (suc number) (length hops))

pub leads_from_goes : (links : List Link) (from to : ℕ) (hops : List Hop) → 0 < length hops
    → EachAt (λ number hop. hop_goes_on links from hops to number hop ≡ true) 0 hops → leads_to from hops to ≡ true
leads_from_goes links from to [] some each = absurd (omega arith)
leads_from_goes links from to (hop ∷ []) some each =
    let parts = and_parts (hop.from == from && has_link links hop.from hop.to) (hop.to == to) each.0 in
    and_from (hop.from == from) (hop.to == to) (and_parts (hop.from == from) (has_link links hop.from hop.to) parts.0).0 parts.1
leads_from_goes links from to (hop ∷ next ∷ hops) some each =
    let parts = and_parts (hop.from == from && has_link links hop.from hop.to) (nat_lt 1 (length (hop ∷ next ∷ hops)) || hop.to == to) each.0 in
    and_from (hop.from == from) (leads_to hop.to (next ∷ hops) to) (and_parts (hop.from == from) (has_link links hop.from hop.to) parts.0).0
    (leads_from_goes links hop.to to (next ∷ hops) (omega arith)
    (each_shift (λ number one. hop_goes_on links from (hop ∷ next ∷ hops) to number one ≡ true) (λ number one. hop_goes_on links hop.to (next ∷ hops) to number one ≡ true) 0 (next ∷ hops)
    (λ number one below is. sym (goes_later links from to hop (next ∷ hops) number one (omega arith)) ∙ is) each.1))

pub goes_from_leads : (links : List Link) (from to : ℕ) (hops : List Hop) → leads_to from hops to ≡ true
    → All (λ hop. has_link links hop.from hop.to ≡ true) hops
    → EachAt (λ number hop. hop_goes_on links from hops to number hop ≡ true) 0 hops
goes_from_leads links from to [] leads all = tt
goes_from_leads links from to (hop ∷ []) leads all =
    let parts = and_parts (hop.from == from) (hop.to == to) leads in
    let linked : has_link links hop.from hop.to ≡ true = All-head (λ one. has_link links one.from one.to ≡ true) hop [] all in
    (and_from (hop.from == from && has_link links hop.from hop.to) (hop.to == to) (and_from (hop.from == from) (has_link links hop.from hop.to) parts.0 linked) parts.1, tt)
goes_from_leads links from to (hop ∷ next ∷ hops) leads all =
    let parts = and_parts (hop.from == from) (leads_to hop.to (next ∷ hops) to) leads in
    let linked : has_link links hop.from hop.to ≡ true = All-head (λ one. has_link links one.from one.to ≡ true) hop (next ∷ hops) all in
    let further : nat_lt 1 (length (hop ∷ next ∷ hops)) ≡ true = lt-ltb 1 (length (hop ∷ next ∷ hops)) (omega arith) in (
      and_from (hop.from == from && has_link links hop.from hop.to) (nat_lt 1 (length (hop ∷ next ∷ hops)) || hop.to == to) (and_from (hop.from == from) (has_link links hop.from hop.to) parts.0 linked) (or_left (nat_lt 1 (length (hop ∷ next ∷ hops))) (hop.to == to) further),
      each_unshift (λ number one. hop_goes_on links from (hop ∷ next ∷ hops) to number one ≡ true) (λ number one. hop_goes_on links hop.to (next ∷ hops) to number one ≡ true) 0 (next ∷ hops)
          (λ number one above below is. goes_later links from to hop (next ∷ hops) number one (omega arith) ∙ is)
          (goes_from_leads links hop.to to (next ∷ hops) parts.1 (All-tail (λ one. has_link links one.from one.to ≡ true) hop (next ∷ hops) all)),
    )

-- ---- rising microcycles: hop by hop, and as a whole

later_later : (links : List Link) (first : Hop) (hops : List Hop) (number : ℕ) (hop : Hop)
    → is_later links (first ∷ hops) (suc number) hop ≡ true → is_later links hops number hop ≡ true
later_later links first hops zero hop is = refl
later_later links first hops (suc number) hop is = is

later_step : (links : List Link) (first : Hop) (hops : List Hop) (number : ℕ) (hop : Hop) → 1 ≤ number
    → is_later links hops number hop ≡ true → is_later links (first ∷ hops) (suc number) hop ≡ true
later_step links first hops zero hop some is = absurd (omega arith)
later_step links first hops (suc number) hop some is = is

pub rises_from_later : (links : List Link) (hops : List Hop) → EachAt (λ number hop. is_later links hops number hop ≡ true) 0 hops → rises links hops ≡ true
rises_from_later links [] each = refl
rises_from_later links (hop ∷ []) each = refl
rises_from_later links (hop ∷ next ∷ hops) each =
    and_from (nat_lt (arrival links hop) next.at) (rises links (next ∷ hops)) each.1.0
    (rises_from_later links (next ∷ hops)
    (each_shift (λ number one. is_later links (hop ∷ next ∷ hops) number one ≡ true) (λ number one. is_later links (next ∷ hops) number one ≡ true) 0 (next ∷ hops)
    (λ number one below is. later_later links hop (next ∷ hops) number one is) each.1))

pub later_from_rises : (links : List Link) (hops : List Hop) → rises links hops ≡ true → EachAt (λ number hop. is_later links hops number hop ≡ true) 0 hops
later_from_rises links [] is = tt
later_from_rises links (hop ∷ []) is = (refl, tt)
later_from_rises links (hop ∷ next ∷ hops) is =
    let parts = and_parts (nat_lt (arrival links hop) next.at) (rises links (next ∷ hops)) is in
    let rest = later_from_rises links (next ∷ hops) parts.1 in
    (refl, (parts.0, each_unshift (λ number one. is_later links (hop ∷ next ∷ hops) number one ≡ true) (λ number one. is_later links (next ∷ hops) number one ≡ true) 1 hops (λ number one above below later. later_step links hop (next ∷ hops) number one above later) rest.1))

-- ---- a test of each hop of each wire

-- nothing is found exactly where each hop of each wire passes
module _ (plan : Plan) (test : Wire → ℕ → Hop → Bool) (fault : ℕ → ℕ → PlanFault) where
  abbrev pub search : Option PlanFault
  search = first_hop (λ number wire place hop. found_unless (test wire place hop) (fault number place)) plan

  abbrev pub Passes : Wire → Type 0
  Passes wire = EachAt (λ place hop. test wire place hop ≡ true) 0 wire.hops

  abbrev found_in : ℕ → Wire → Option PlanFault
  found_in number wire = first_at (λ place hop. found_unless (test wire place hop) (fault number place)) 0 wire.hops

  pub each_passes : search ≡ None → All Passes plan.wires
  each_passes none =
      each_all Passes 0 plan.wires
      (each_to (λ number wire. found_in number wire ≡ None) (λ number wire. Passes wire)
      (λ number wire is.
      each_to (λ place hop. found_unless (test wire place hop) (fault number place) ≡ None) (λ place hop. test wire place hop ≡ true) (λ place hop got. unless_none (test wire place hop) (fault number place) got) 0 wire.hops
      (each_none (λ place hop. found_unless (test wire place hop) (fault number place)) 0 wire.hops is)) 0 plan.wires
      (each_none found_in 0 plan.wires none))

  pub passes_none : All Passes plan.wires → search ≡ None
  passes_none all =
      none_each found_in 0 plan.wires
      (each_to (λ number wire. Passes wire) (λ number wire. found_in number wire ≡ None)
      (λ number wire passes.
      none_each (λ place hop. found_unless (test wire place hop) (fault number place)) 0 wire.hops
      (each_to (λ place hop. test wire place hop ≡ true) (λ place hop. found_unless (test wire place hop) (fault number place) ≡ None) (λ place hop got. none_unless (test wire place hop) (fault number place) got) 0 wire.hops passes)) 0 plan.wires
      (all_each Passes 0 plan.wires all))

  -- whatever is found is such a fault
  pub search_is : (P : PlanFault → Type 0) → ((number place : ℕ) → P (fault number place)) → (found : PlanFault) → search ≡ Some found → P found
  search_is P each found is =
      first_is found_in P
      (λ number wire one got.
      first_is (λ place hop. found_unless (test wire place hop) (fault number place)) P (λ place hop other its. subst P (unless_is (test wire place hop) (fault number place) other its) (each number place)) 0 wire.hops one got)
      0 plan.wires found is
