-- Missing and extra wires, found by tables.
use Rattle.std.proofs.Common.{◌≡◌, ◌+◌, ◌&&◌, ◌||◌, ℕ, zero, suc, Bool, true, false, not, List, [], ◌∷◌, map, take, slice_get, Option, Some, None, is_some, if◌then◌else◌, ap, ap₂, refl, sym, subst, ◌∙◌, ⊎_elim, eq-eqb, ne_eqb, arith}
use Rattle.std.specs.List.{find, list_any}
use Rattle.std.specs.Option.{option_or}
use Rattle.std.specs.HashMap.{HashMap}
use Rattle.std.proofs.lemmas.Bool.{cases_Bool}
use Rattle.std.proofs.lemmas.Option.{slice_get-get_or}
use Rattle.vw_net.specs.declared.flat.Flat.{Flat}
use Rattle.vw_plan.specs.declared.need.Need.{Need}
use Rattle.vw_plan.specs.declared.plan.Plan.{Plan}
use Rattle.vw_plan.specs.declared.wire.Wire.{Wire}
use Rattle.vw_plan.specs.Lead.{brings}
use Rattle.vw_plan.specs.Nets.{is_needed}
use Rattle.vw_plan.specs.Needs as needs
use Rattle.vw_plan.specs.Needs.{needed_pairs}
use Rattle.vw_check.specs.declared.fault.PlanFault.{PlanFault}
use Rattle.vw_check.specs.declared.fault.PlanFault.TheVariants.{ExtraWire, MissingWire}
use Rattle.vw_net.specs.FirstFound.{first_at, found_if, found_unless}
use Rattle.vw_check.specs.WireFaults.{extra_wire, is_brought, missing_wire}
use Rattle.vw_ready.specs.Pairs.{HasPairs, first_pair, is_number_pair, pair_in}
use Rattle.vw_check.specs.Steps.Tables.{need_pairs}
use Rattle.vw_ready.specs.Wires.{wire_pairs}
use Rattle.vw_check.specs.Steps.Wires.{first_extra, first_missing, is_extra, is_given_number}
use Rattle.vw_net.proofs.Orders.{eqb_comm}
use Rattle.vw_ready.proofs.FirstPlaces.{LeadsTo, leads}
use Rattle.vw_ready.proofs.WiresBrought.{brings_by_pair, wire_leads}

-- ---- searches that find the same

first_agree : {X Y : Type 0} (found other : ℕ → X → Option Y) (from : ℕ) (xs : List X)
    → ((place : ℕ) (x : X) → slice_get xs place ≡ Some x → found (from + place) x ≡ other (from + place) x)
    → first_at found from xs ≡ first_at other from xs
first_agree found other from [] agree = refl
first_agree found other from (x ∷ xs) agree =
    let at_first : from + 0 ≡ from = omega arith in
    let here : found from x ≡ other from x = subst (λ (number : ℕ). found number x ≡ other number x) at_first (agree 0 x refl) in
    let rest = first_agree found other (suc from) xs (λ place y is. let later : from + suc place ≡ suc from + place = omega arith in subst (λ (number : ℕ). found number y ≡ other number y) later (agree (suc place) y is)) in
    ap₂ option_or here rest

-- ---- whether a table has a pair

any_find : {X : Type 0} (test : X → Bool) (xs : List X) → is_some (find test xs) ≡ list_any test xs
any_find test [] = refl
any_find test (x ∷ xs) = elim (test x) as (λ here. is_some (if here then Some x else find test xs) ≡ (here || list_any test xs)) [ true ↦ refl | false ↦ any_find test xs ]

any_leads : {X : Type 0} (test : X → Bool) (xs : List X) (found : Option ℕ) → LeadsTo test xs found → is_some found ≡ list_any test xs
any_leads test [] None leads_to = refl
any_leads test (x ∷ xs) None leads_to = sym (ap is_some leads_to) ∙ any_find test (x ∷ xs)
any_leads test [] (Some place) leads_to = absurd (omega (arith, leads_to.0))
any_leads test (x ∷ xs) (Some place) leads_to = ap is_some (sym (slice_get-get_or (x ∷ xs) place x leads_to.0) ∙ leads_to.1) ∙ any_find test (x ∷ xs)

-- ---- whether a place is the first

abbrev first_place_from : {X : Type 0} → (X → Bool) → ℕ → List X → Option ℕ
first_place_from test from xs = first_at (λ place x. found_if (test x) place) from xs

first_pair-place : {X : Type 0} (pair_of : X → ℕ × ℕ) (test : X → Bool) (one other : ℕ)
    → ((x : X) → test x ≡ is_number_pair one other (pair_of x)) → (from : ℕ) (xs : List X)
    → first_pair from (map pair_of xs) one other ≡ first_place_from test from xs
first_pair-place pair_of test one other same from [] = refl
first_pair-place pair_of test one other same from (x ∷ xs) = ap₂ (λ (here : Bool) (rest : Option ℕ). option_or (found_if here from) rest) (sym (same x)) (first_pair-place pair_of test one other same (suc from) xs)

place_first : {X : Type 0} (test : X → Bool) (from place : ℕ) (x : X) (xs : List X) → slice_get xs place ≡ Some x → test x ≡ true
    → is_given_number (from + place) (first_place_from test from xs) ≡ not (list_any test (take place xs))
place_first test from place x [] is passes = cc
place_first test from zero x (y ∷ ys) is passes =
    let same : y ≡ x = cc in
    let here : test y ≡ true = ap test same ∙ passes in
    rw here (eq-eqb from (from + 0) (omega arith))
place_first test from (suc place) x (y ∷ ys) is passes =
    let if_here = λ (here : test y ≡ true). let whole : is_given_number (from + suc place) (first_place_from test from (y ∷ ys)) ≡ not (list_any test (take (suc place) (y ∷ ys))) = rw here (ne_eqb from (from + suc place) (λ same. omega arith)) in whole in
    let if_later = λ (later : test y ≡ false).
    let next : from + suc place ≡ suc from + place = omega arith in
    let whole : is_given_number (from + suc place) (first_place_from test from (y ∷ ys)) ≡ not (list_any test (take (suc place) (y ∷ ys))) = rw (later, next) (place_first test (suc from) place x ys is passes) in whole in
    ⊎_elim if_here if_later (cases_Bool (test y))

-- ---- the faults

found_by : (needed first : Bool) (fault : PlanFault) → found_if (not needed || not first) fault ≡ found_unless (needed && first) fault
found_by true true fault = refl
found_by true false fault = refl
found_by false first fault = refl

need_turned : (net node : ℕ) (need : Need) → needs.is_pair net node need ≡ is_number_pair net node (need.net, need.to)
need_turned net node need = ap₂ (λ (first second : Bool). first && second) (eqb_comm need.net net) (eqb_comm need.to node)

module _ {S : Type 0} (flat : Flat) (plan : Plan) (wires : HashMap (ℕ × ℕ) ℕ S) (has : HasPairs (wire_pairs plan.wires) wires) where
  pub missing_by : (list : List Need) → list ≡ needed_pairs flat plan.chip_of → first_missing wires list ≡ missing_wire flat plan
  missing_by list is =
      ap (first_missing wires) is
      ∙ first_agree (λ _ need. found_unless (is_some (pair_in wires need.net need.to)) (MissingWire need.net need.to)) (λ _ need. found_unless (is_brought plan.wires need.net need.to) (MissingWire need.net need.to)) 0 (needed_pairs flat plan.chip_of) (λ place need at.
      ap (λ (there : Bool). found_unless there (MissingWire need.net need.to)) (any_leads (brings need.net need.to) plan.wires (pair_in wires need.net need.to) (wire_leads plan.wires wires has need.net need.to)))

  first_wire : (number : ℕ) (wire : Wire) → slice_get plan.wires number ≡ Some wire
      → is_given_number number (pair_in wires wire.net wire.to) ≡ not (is_brought (take number plan.wires) wire.net wire.to)
  first_wire number wire is =
      let test = brings wire.net wire.to in
      let place = has wire.net wire.to ∙ first_pair-place (λ (one : Wire). (one.net, one.to)) test wire.net wire.to (brings_by_pair wire.net wire.to) 0 plan.wires in
      let from_first : 0 + number ≡ number = omega arith in
      let own : test wire ≡ true = rw (eq-eqb wire.net wire.net refl, eq-eqb wire.to wire.to refl) refl in
      ap (is_given_number number) place ∙ subst (λ (count : ℕ). is_given_number count (first_place_from test 0 plan.wires) ≡ not (list_any test (take number plan.wires))) from_first (place_first test 0 number wire plan.wires is own)

  pub extra_by : (list : List Need) (table : HashMap (ℕ × ℕ) ℕ S) → list ≡ needed_pairs flat plan.chip_of → HasPairs (need_pairs list) table
      → ((net node : ℕ) → list_any (needs.is_pair net node) (needed_pairs flat plan.chip_of) ≡ is_needed flat plan.chip_of net node)
      → first_extra table wires plan.wires ≡ extra_wire flat plan
  extra_by list table is has_needs listed =
      first_agree (λ number wire. found_if (is_extra table wires number wire) (ExtraWire number)) (λ number wire. found_unless (is_needed flat plan.chip_of wire.net wire.to && not (is_brought (take number plan.wires) wire.net wire.to)) (ExtraWire number)) 0 plan.wires (λ number wire at.
      let from_first : number ≡ 0 + number = omega arith in
      let needed = any_leads (needs.is_pair wire.net wire.to) list (pair_in table wire.net wire.to) (leads (λ (need : Need). (need.net, need.to)) (needs.is_pair wire.net wire.to) wire.net wire.to (need_turned wire.net wire.to) list table has_needs)
      ∙ ap (list_any (needs.is_pair wire.net wire.to)) is ∙ listed wire.net wire.to in
      let whole : found_if (is_extra table wires number wire) (ExtraWire number) ≡ found_unless (is_needed flat plan.chip_of wire.net wire.to && not (is_brought (take number plan.wires) wire.net wire.to)) (ExtraWire number) =
      ap₂ (λ (one other : Bool). found_if (not one || not other) (ExtraWire number)) needed (first_wire number wire at)
      ∙ found_by (is_needed flat plan.chip_of wire.net wire.to) (not (is_brought (take number plan.wires) wire.net wire.to)) (ExtraWire number) in
      subst (λ (count : ℕ). found_if (is_extra table wires count wire) (ExtraWire count) ≡ found_unless (is_needed flat plan.chip_of wire.net wire.to && not (is_brought (take count plan.wires) wire.net wire.to)) (ExtraWire count)) from_first whole)
