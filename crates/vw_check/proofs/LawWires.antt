-- Missing and extra wires, and the point of a sound plan that they break.
use Rattle.std.proofs.Common.{◌≡◌, ◌==◌, ◌<◌, ◌≤◌, ◌+◌, ◌&&◌, not, ℕ, zero, suc, Bool, true, false, List, [], ◌∷◌, ◌++◌, length, take, drop, count_by, cond, Some, None, get_or, refl, sym, subst, ◌∙◌, ap, All, ⊎_elim, true≢false, arith, if◌then◌else◌}
use Rattle.std.specs.List.{list_any}
use Rattle.std.proofs.lemmas.Bool.{and_parts, and_from, both_ways, eqb-true, eq-eqb, not_from_false, not-true, or_left, or_right, or_cases, or_from, or_parts}
use Rattle.std.proofs.lemmas.Option.{none-some}
use Rattle.std.proofs.lemmas.List.{take_all, take-append-drop}
use Rattle.std.proofs.lemmas.List.Sums.{count_by_more_yes, count_by_more_no, sum_by-append}
use Rattle.std.proofs.lemmas.List.Elements.{All-head, All-tail}
use Rattle.vw_net.specs.declared.flat.Flat.{Flat}
use Rattle.vw_plan.specs.declared.need.Need.{Need}
use Rattle.vw_plan.specs.declared.plan.Plan.{Plan}
use Rattle.vw_plan.specs.declared.wire.Wire.{Wire}
use Rattle.vw_plan.specs.PlannedBoard.{PlannedBoard}
use Rattle.vw_plan.specs.Nets.{is_needed}
use Rattle.vw_plan.specs.Needs.{is_pair, needed_pairs}
use Rattle.vw_plan.specs.Lead.{brings}
use Rattle.vw_plan.specs.Sound.{HasWires}
use Rattle.vw_check.specs.declared.fault.PlanFault.{PlanFault}
use Rattle.vw_check.specs.declared.fault.PlanFault.TheVariants.{MissingWire, ExtraWire}
use Rattle.vw_net.specs.FirstFound.{found_unless}
use Rattle.vw_check.specs.WireFaults.{is_brought, missing_wire, extra_wire}
use Rattle.vw_check.specs.Answers.{Breaks}
use Rattle.vw_net.proofs.FirstFound.{EachAt, each_none, none_each, each_to, each_all, all_each, each_or-zero, or_each-zero, unless_none, none_unless, first_is, unless_is}

-- the needed pairs are those that are needed
abbrev pub AreNeeds : Flat → List ℕ → List Need → Type 0
AreNeeds flat chip_of needs = (net node : ℕ) → is_needed flat chip_of net node ≡ list_any (is_pair net node) needs

-- ---- one wire a pair

-- of the wires of one pair there is one at most: none has an earlier one
abbrev HaveNoEarlier : List Wire → Type 0
HaveNoEarlier wires = EachAt (λ number wire. is_brought (take number wires) wire.net wire.to ≡ false) 0 wires

count_none : (net node : ℕ) (wires : List Wire) → is_brought wires net node ≡ false → count_by (brings net node) wires ≡ 0
count_none net node [] none = refl
count_none net node (wire ∷ wires) none =
    let parts = or_parts (brings net node wire) (is_brought wires net node) none in
    rw parts.0 (count_none net node wires parts.1)

some_count : (net node : ℕ) (wires : List Wire) → is_brought wires net node ≡ true → 1 ≤ count_by (brings net node) wires
some_count net node [] some = absurd (true≢false (sym some))
some_count net node (wire ∷ wires) some = by (brings net node wire) refl (is_brought wires net node) refl (some_count net node wires) where
  by : (here : Bool) → brings net node wire ≡ here → (there : Bool) → is_brought wires net node ≡ there
      → (is_brought wires net node ≡ true → 1 ≤ count_by (brings net node) wires) → 1 ≤ count_by (brings net node) (wire ∷ wires)
  by true is there its rest =
      let split = sum_by-append (λ one. cond (brings net node one) 1 0) (wire ∷ []) wires in
      let here : count_by (brings net node) (wire ∷ []) ≡ 1 = rw is refl in
      omega (arith, split, here)
  by false is true its rest = rw is (rest its)
  by false is false its rest = absurd (both_ways (is_brought (wire ∷ wires) net node) (or_from (brings net node wire) (is_brought wires net node) is its) some)

brought_of_count : (net node : ℕ) (wires : List Wire) → 1 ≤ count_by (brings net node) wires → is_brought wires net node ≡ true
brought_of_count net node wires some = by (is_brought wires net node) refl where
  by : (is : Bool) → is_brought wires net node ≡ is → is_brought wires net node ≡ true
  by true is = is
  by false is = let none = count_none net node wires is in absurd (omega (arith, some, none))

brings_is : (net node : ℕ) (wire : Wire) → brings net node wire ≡ true → (wire.net ≡ net) × (wire.to ≡ node)
brings_is net node wire is = let parts = and_parts (wire.net == net) (wire.to == node) is in (eqb-true wire.net net parts.0, eqb-true wire.to node parts.1)

brings_own : (wire : Wire) → brings wire.net wire.to wire ≡ true
brings_own wire = and_from (wire.net == wire.net) (wire.to == wire.to) (eq-eqb wire.net wire.net refl) (eq-eqb wire.to wire.to refl)

-- ---- the wires up to a place

abbrev brought_so_far : List Wire → ℕ → ℕ → ℕ → ℕ
brought_so_far wires net node i = count_by (brings net node) (take i wires)

-- where the wire at a place is the first of its pair, there are no others before it
first_here : (wires : List Wire) → HaveNoEarlier wires → (net node i : ℕ) (default : Wire) → i < length wires
    → brings net node (get_or wires i default) ≡ true → brought_so_far wires net node i ≡ 0
first_here wires once net node i default below is =
    let wire = get_or wires i default in
    let its = brings_is net node wire is in
    let none = each_or-zero (λ number one. is_brought (take number wires) one.net one.to ≡ false) wires once i default below in
    count_none net node (take i wires) (subst (λ (n : ℕ). is_brought (take i wires) net n ≡ false) its.1 (subst (λ (n : ℕ). is_brought (take i wires) n wire.to ≡ false) its.0 none))

one_step : (wires : List Wire) → HaveNoEarlier wires → (net node i : ℕ) (default : Wire) → i < length wires
    → brought_so_far wires net node i ≤ 1 → (here : Bool) → brings net node (get_or wires i default) ≡ here
    → brought_so_far wires net node (suc i) ≤ 1
one_step wires once net node i default below few true is =
    let more : i + 1 ≡ suc i = omega arith in
    let none = first_here wires once net node i default below is in
    let one = count_by_more_yes (brings net node) wires i default below is in
    subst (λ (n : ℕ). brought_so_far wires net node n ≤ 1) more (omega (arith, none, one))
one_step wires once net node i default below few false is =
    let more : i + 1 ≡ suc i = omega arith in
    let same = count_by_more_no (brings net node) wires i default below is in
    subst (λ (n : ℕ). brought_so_far wires net node n ≤ 1) more (omega (arith, same))

one_at_most : (wires : List Wire) → HaveNoEarlier wires → (net node : ℕ) (default : Wire) (i : ℕ) → i ≤ length wires → brought_so_far wires net node i ≤ 1
one_at_most wires once net node default zero within = omega arith
one_at_most wires once net node default (suc i) within =
    one_step wires once net node i default (omega arith) (one_at_most wires once net node default i (omega arith)) (brings net node (get_or wires i default)) refl

one_of_pair : (wires : List Wire) → HaveNoEarlier wires → (net node : ℕ) → count_by (brings net node) wires ≤ 1
one_of_pair [] once net node = omega arith
one_of_pair (first ∷ rest) once net node =
    let whole = first ∷ rest in
    let same : take (length whole) whole ≡ whole = take_all (length whole) whole (omega arith) in
    subst (λ (wires : List Wire). count_by (brings net node) wires ≤ 1) same (one_at_most whole once net node first (length whole) (omega arith))

-- ---- and back

count_taken : (wires : List Wire) (net node i : ℕ) → brought_so_far wires net node i ≤ count_by (brings net node) wires
count_taken wires net node i =
    let parts = sum_by-append (λ wire. cond (brings net node wire) 1 0) (take i wires) (drop i wires) in
    let whole : count_by (brings net node) (take i wires ++ drop i wires) ≡ count_by (brings net node) wires = ap (count_by (brings net node)) (take-append-drop i wires) in
    omega (arith, parts, whole)

none_earlier : (wires : List Wire) → ((net node : ℕ) → count_by (brings net node) wires ≤ 1) → (i : ℕ) (default : Wire) → i < length wires
    → (is : Bool) → is_brought (take i wires) (get_or wires i default).net (get_or wires i default).to ≡ is
    → is_brought (take i wires) (get_or wires i default).net (get_or wires i default).to ≡ false
none_earlier wires few i default below false is = is
none_earlier wires few i default below true is =
    let wire = get_or wires i default in
    let one = some_count wire.net wire.to (take i wires) is in
    let two = count_by_more_yes (brings wire.net wire.to) wires i default below (brings_own wire) in
    let all = count_taken wires wire.net wire.to (i + 1) in
    let most = few wire.net wire.to in
    absurd (omega (arith, one, two, all, most))

-- what is known of all elements is known of one that passes a test
any_all : {X : Type 0} (P : X → Type 0) (test : X → Bool) (Q : Type 0) (xs : List X) → list_any test xs ≡ true → All P xs
    → ((x : X) → test x ≡ true → P x → Q) → Q
any_all P test Q [] is all step = absurd (true≢false (sym is))
any_all P test Q (x ∷ xs) is all step =
    ⊎_elim (λ (here : test x ≡ true). step x here (All-head P x xs all)) (λ (there : list_any test xs ≡ true). any_all P test Q xs there (All-tail P x xs all) step) (or_cases (test x) (list_any test xs) is)

own_pairs : (needs : List Need) → All (λ need. list_any (is_pair need.net need.to) needs ≡ true) needs
own_pairs needs i default below = at needs i below where
  at : (list : List Need) (k : ℕ) → k < length list → list_any (is_pair (get_or list k default).net (get_or list k default).to) list ≡ true
  at [] k within = absurd (omega arith)
  at (need ∷ list) zero within = or_left (is_pair need.net need.to need) (list_any (is_pair need.net need.to) list) (and_from (need.net == need.net) (need.to == need.to) (eq-eqb need.net need.net refl) (eq-eqb need.to need.to refl))
  at (need ∷ list) (suc k) within = or_right (is_pair (get_or list k default).net (get_or list k default).to need) (list_any (is_pair (get_or list k default).net (get_or list k default).to) list) (at list k (omega arith))

pair_is : (net node : ℕ) (need : Need) → is_pair net node need ≡ true → (need.net ≡ net) × (need.to ≡ node)
pair_is net node need is = let parts = and_parts (need.net == net) (need.to == node) is in (eqb-true need.net net parts.0, eqb-true need.to node parts.1)

-- ---- the point of a sound plan

if_true : (b : Bool) (one other : ℕ) → b ≡ true → (if b then one else other) ≡ one
if_true true one other is = refl
if_true false one other is = absurd (true≢false (sym is))

module _ (planned : PlannedBoard) (needs_are : AreNeeds planned.ordered.flat planned.plan.chip_of (needed_pairs planned.ordered.flat planned.plan.chip_of)) where
  abbrev flat : Flat
  flat = planned.ordered.flat

  abbrev plan : Plan
  plan = planned.plan

  abbrev needs : List Need
  needs = needed_pairs flat plan.chip_of

  abbrev needed : ℕ → ℕ → Bool
  needed net node = is_needed flat plan.chip_of net node

  abbrev fine : ℕ → Wire → Bool
  fine number wire = needed wire.net wire.to && not (is_brought (take number plan.wires) wire.net wire.to)

  all_brought : missing_wire flat plan ≡ None → All (λ need. is_brought plan.wires need.net need.to ≡ true) needs
  all_brought none =
      each_all (λ need. is_brought plan.wires need.net need.to ≡ true) 0 needs
      (each_to (λ number need. found_unless (is_brought plan.wires need.net need.to) (MissingWire need.net need.to) ≡ None) (λ number need. is_brought plan.wires need.net need.to ≡ true)
      (λ number need is. unless_none (is_brought plan.wires need.net need.to) (MissingWire need.net need.to) is) 0 needs
      (each_none (λ number need. found_unless (is_brought plan.wires need.net need.to) (MissingWire need.net need.to)) 0 needs none))

  all_fine : extra_wire flat plan ≡ None → EachAt (λ number wire. fine number wire ≡ true) 0 plan.wires
  all_fine none =
      each_to (λ number wire. found_unless (fine number wire) (ExtraWire number) ≡ None) (λ number wire. fine number wire ≡ true) (λ number wire is. unless_none (fine number wire) (ExtraWire number) is) 0 plan.wires
      (each_none (λ number wire. found_unless (fine number wire) (ExtraWire number)) 0 plan.wires none)

  pub has_wires : missing_wire flat plan ≡ None → extra_wire flat plan ≡ None → HasWires planned
  has_wires missing extra net node = by (needed net node) refl where
    fine_all : EachAt (λ number wire. fine number wire ≡ true) 0 plan.wires
    fine_all = all_fine extra

    once : HaveNoEarlier plan.wires
    once = each_to (λ number wire. fine number wire ≡ true) (λ number wire. is_brought (take number plan.wires) wire.net wire.to ≡ false)
        (λ number wire is. not-true (is_brought (take number plan.wires) wire.net wire.to) (and_parts (needed wire.net wire.to) (not (is_brought (take number plan.wires) wire.net wire.to)) is).1) 0 plan.wires fine_all

    all_needed : All (λ wire. needed wire.net wire.to ≡ true) plan.wires
    all_needed = each_all (λ wire. needed wire.net wire.to ≡ true) 0 plan.wires
        (each_to (λ number wire. fine number wire ≡ true) (λ number wire. needed wire.net wire.to ≡ true) (λ number wire is. (and_parts (needed wire.net wire.to) (not (is_brought (take number plan.wires) wire.net wire.to)) is).0) 0 plan.wires fine_all)

    none_unneeded : needed net node ≡ false → (is : Bool) → is_brought plan.wires net node ≡ is → count_by (brings net node) plan.wires ≡ 0
    none_unneeded free false is = count_none net node plan.wires is
    none_unneeded free true is = any_all (λ wire. needed wire.net wire.to ≡ true) (brings net node) (count_by (brings net node) plan.wires ≡ 0) plan.wires is all_needed
        (λ wire brought its.
        let at = brings_is net node wire brought in
        absurd (both_ways (needed net node) free (subst (λ (n : ℕ). needed net n ≡ true) at.1 (subst (λ (n : ℕ). needed n wire.to ≡ true) at.0 its))))

    one_needed : needed net node ≡ true → count_by (brings net node) plan.wires ≡ 1
    one_needed want =
        let listed = sym (needs_are net node) ∙ want in
        let brought = any_all (λ need. is_brought plan.wires need.net need.to ≡ true) (is_pair net node) (is_brought plan.wires net node ≡ true) needs listed (all_brought missing)
        (λ need pair its. let at = pair_is net node need pair in subst (λ (n : ℕ). is_brought plan.wires net n ≡ true) at.1 (subst (λ (n : ℕ). is_brought plan.wires n need.to ≡ true) at.0 its)) in
        let some = some_count net node plan.wires brought in
        let few = one_of_pair plan.wires once net node in
        omega (arith, some, few)

    by : (is : Bool) → needed net node ≡ is → count_by (brings net node) plan.wires ≡ (if needed net node then 1 else 0)
    by true is = rw is (one_needed is)
    by false is = rw is (none_unneeded is (is_brought plan.wires net node) refl)

  -- ---- and back

  pub no_missing_wire : HasWires planned → missing_wire flat plan ≡ None
  no_missing_wire has =
      none_each (λ number need. found_unless (is_brought plan.wires need.net need.to) (MissingWire need.net need.to)) 0 needs
      (each_to (λ number need. list_any (is_pair need.net need.to) needs ≡ true) (λ number need. found_unless (is_brought plan.wires need.net need.to) (MissingWire need.net need.to) ≡ None)
      (λ number need listed.
      let one = has need.net need.to ∙ if_true (needed need.net need.to) 1 0 (needs_are need.net need.to ∙ listed) in
      none_unless (is_brought plan.wires need.net need.to) (MissingWire need.net need.to) (brought_of_count need.net need.to plan.wires (omega (arith, one)))) 0 needs
      (all_each (λ need. list_any (is_pair need.net need.to) needs ≡ true) 0 needs (own_pairs needs)))

  few_wires : HasWires planned → (net node : ℕ) → count_by (brings net node) plan.wires ≤ 1
  few_wires has net node = by (needed net node) refl where
    by : (is : Bool) → needed net node ≡ is → count_by (brings net node) plan.wires ≤ 1
    by true is = let one : count_by (brings net node) plan.wires ≡ 1 = has net node ∙ rw is refl in omega (arith, one)
    by false is = let none : count_by (brings net node) plan.wires ≡ 0 = has net node ∙ rw is refl in omega (arith, none)

  is_fine : HasWires planned → (i : ℕ) (default : Wire) → i < length plan.wires → fine i (get_or plan.wires i default) ≡ true
  is_fine has i default below =
      let wire = get_or plan.wires i default in
      let alone = none_earlier plan.wires (few_wires has) i default below (is_brought (take i plan.wires) wire.net wire.to) refl in
      and_from (needed wire.net wire.to) (not (is_brought (take i plan.wires) wire.net wire.to)) (by (needed wire.net wire.to) refl) (not_from_false (is_brought (take i plan.wires) wire.net wire.to) alone) where
        by : (is : Bool) → needed (get_or plan.wires i default).net (get_or plan.wires i default).to ≡ is
            → needed (get_or plan.wires i default).net (get_or plan.wires i default).to ≡ true
        by true is = is
        by false is =
            let wire = get_or plan.wires i default in
            let none : count_by (brings wire.net wire.to) plan.wires ≡ 0 = has wire.net wire.to ∙ rw is refl in
            let one = count_by_more_yes (brings wire.net wire.to) plan.wires i default below (brings_own wire) in
            let all = count_taken plan.wires wire.net wire.to (i + 1) in
            absurd (omega (arith, none, one, all))

  pub no_extra_wire : HasWires planned → extra_wire flat plan ≡ None
  no_extra_wire has =
      none_each (λ number wire. found_unless (fine number wire) (ExtraWire number)) 0 plan.wires
      (each_to (λ number wire. fine number wire ≡ true) (λ number wire. found_unless (fine number wire) (ExtraWire number) ≡ None) (λ number wire is. none_unless (fine number wire) (ExtraWire number) is) 0 plan.wires
      (or_each-zero (λ number wire. fine number wire ≡ true) plan.wires (λ i default below. is_fine has i default below)))

  -- ---- what the faults break

  pub missing_wire_breaks : (fault : PlanFault) → missing_wire flat plan ≡ Some fault → Breaks planned fault
  missing_wire_breaks fault is =
      first_is (λ number need. found_unless (is_brought plan.wires need.net need.to) (MissingWire need.net need.to)) (Breaks planned)
      (λ number need found its. subst (Breaks planned) (unless_is (is_brought plan.wires need.net need.to) (MissingWire need.net need.to) found its) (λ sound. none-some fault (sym (no_missing_wire sound) ∙ is))) 0 needs fault is

  pub extra_wire_breaks : (fault : PlanFault) → extra_wire flat plan ≡ Some fault → Breaks planned fault
  extra_wire_breaks fault is =
      first_is (λ number wire. found_unless (fine number wire) (ExtraWire number)) (Breaks planned)
      (λ number wire found its. subst (Breaks planned) (unless_is (fine number wire) (ExtraWire number) found its) (λ sound. none-some fault (sym (no_extra_wire sound) ∙ is))) 0 plan.wires fault is
