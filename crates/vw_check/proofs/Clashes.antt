-- Hops that share a pin, hop by hop.
use Rattle.std.proofs.Common.{◌≡◌, ◌<◌, ◌≤◌, ◌+◌, ◌&&◌, ◌++◌, ℕ, suc, Bool, true, false, List, [], ◌∷◌, length, take, drop, get_or, eqb, cond, Option, Some, None, ap, ap₂, refl, sym, subst, ◌∙◌, append_assoc, append-nil, length-append, is_some, add-one, drop-cons, eqb-true, arith}
use Rattle.std.specs.Option.{option_map, option_or}
use Rattle.std.specs.HashMap as hash
use Rattle.std.proofs.lemmas.Bool.{and_parts}
use Rattle.std.proofs.Math.Seq.{take-append_seam}
use Rattle.std.proofs.lemmas.List.{drop_all}
use Rattle.std.proofs.lemmas.Option.{some_pair_parts}
use Rattle.std.proofs.lemmas.List.Folds.{find-append}
use Rattle.vw_net.proofs.FirstOptions.{or_assoc}
use Rattle.vw_plan.specs.declared.wire.Hop.{Hop}
use Rattle.vw_plan.specs.declared.wire.Wire.{Wire}
use Rattle.vw_plan.specs.declared.plan.Plan.{Plan}
use Rattle.vw_plan.specs.Sound.{share_pin}
use Rattle.vw_check.specs.declared.fault.PlanFault.{PlanFault}
use Rattle.vw_check.specs.declared.fault.PlanFault.TheVariants.{PinClash}
use Rattle.vw_net.specs.FirstFound.{first_at}
use Rattle.vw_check.specs.HopFaults.{PlacedHop, first_sharing, hops_placed, pin_clash, wires_placed}
use Rattle.vw_check.specs.Steps.Tables.{HasFirstHops, PinKey, user_in}
use Rattle.vw_check.specs.Steps.Clashes.{clash_behind, IsClashIn}

abbrev pub numbers : PlacedHop → ℕ × ℕ
numbers placed = (placed.wire, placed.number)

abbrev pub placed_at : ℕ → ℕ → Hop → PlacedHop
placed_at wire number hop = record { wire = wire; number = number; hop = hop }

-- ---- one more pin

given_by : (shared : Bool) (before : Option PlacedHop) (old new : Option (ℕ × ℕ)) (placed : PlacedHop) → old ≡ option_map numbers before
    → (shared ≡ true → old ≡ None) → new ≡ cond shared (Some (numbers placed)) old
    → new ≡ option_map numbers (option_or before (cond shared (Some placed) None))
given_by true None old new placed has free is = is
given_by true (Some earlier) old new placed has free is = let none : old ≡ None = free refl in cc
given_by false None old new placed has free is = is ∙ has
given_by false (Some earlier) old new placed has free is = is ∙ has

-- the user of the pin with these parts
pub used_by : {S : Type 0} (table : hash.HashMap PinKey (ℕ × ℕ) S) (from to pin at : ℕ) (hop : Hop) → from ≡ hop.from → to ≡ hop.to
    → pin ≡ hop.pin → at ≡ hop.at
    → hash.get_by (λ (key : PinKey). (eqb from key.0.0 && eqb to key.0.1) && (eqb pin key.1.0 && eqb at key.1.1)) table ≡ user_in table hop
used_by table from to pin at hop from_is to_is pin_is at_is =
    let used = λ (one two three four : ℕ). hash.get_by (λ (key : PinKey). (eqb one key.0.0 && eqb two key.0.1) && (eqb three key.1.0 && eqb four key.1.1)) table in
    ap (λ (one : ℕ). used one to pin at) from_is
    ∙ ap (λ (two : ℕ). used hop.from two pin at) to_is
    ∙ ap (λ (three : ℕ). used hop.from hop.to three at) pin_is
    ∙ ap (λ (four : ℕ). used hop.from hop.to hop.pin four) at_is

-- hops that share a pin have one user
same_user : {S : Type 0} (table : hash.HashMap PinKey (ℕ × ℕ) S) (hop other : Hop) → share_pin hop other ≡ true → user_in table other ≡ user_in table hop
same_user table hop other shared =
    let parts = and_parts (eqb hop.from other.from && eqb hop.to other.to) (eqb hop.pin other.pin && eqb hop.at other.at) shared in
    let ends = and_parts (eqb hop.from other.from) (eqb hop.to other.to) parts.0 in
    let pins = and_parts (eqb hop.pin other.pin) (eqb hop.at other.at) parts.1 in
    sym (used_by table hop.from hop.to hop.pin hop.at other (eqb-true hop.from other.from ends.0) (eqb-true hop.to other.to ends.1) (eqb-true hop.pin other.pin pins.0) (eqb-true hop.at other.at pins.1))

pub share_pin-parts : (from to pin at : ℕ) (hop other : Hop) → from ≡ hop.from → to ≡ hop.to → pin ≡ hop.pin → at ≡ hop.at
    → ((eqb from other.from && eqb to other.to) && (eqb pin other.pin && eqb at other.at)) ≡ share_pin hop other
share_pin-parts from to pin at hop other from_is to_is pin_is at_is = rw (from_is, to_is, pin_is, at_is) refl

pub pins_given : {S : Type 0} (placed : List PlacedHop) (old new : hash.HashMap PinKey (ℕ × ℕ) S) (wire number : ℕ) (hop : Hop)
    → HasFirstHops placed old → user_in old hop ≡ None
    → ((other : Hop) → user_in new other ≡ cond (share_pin hop other) (Some (wire, number)) (user_in old other))
    → HasFirstHops (placed ++ placed_at wire number hop ∷ []) new
pins_given placed old new wire number hop has free put other =
    given_by (share_pin hop other) (first_sharing placed other) (user_in old other) (user_in new other) (placed_at wire number hop) (has other) (λ shared. same_user old hop other shared ∙ free) (put other)
    ∙ ap (option_map numbers) (sym (find-append (λ earlier. share_pin earlier.hop other) placed (placed_at wire number hop ∷ [])))

-- ---- the hops of a wire

-- what is left of the hops of a wire, behind those that have their pins
pub record IsRestOfHops {S : Type 0} (placed : List PlacedHop) (wire number : ℕ) (hops : List Hop) (users : hash.HashMap PinKey (ℕ × ℕ) S) : Type 0 where
  pub before : List PlacedHop
  pub pins : HasFirstHops before users
  pub left : clash_behind before (hops_placed wire number (drop number hops)) ≡ clash_behind placed (hops_placed wire 0 hops)
  pub all : before ++ hops_placed wire number (drop number hops) ≡ placed ++ hops_placed wire 0 hops

pub left_first : {S : Type 0} (placed : List PlacedHop) (wire : ℕ) (hops : List Hop) (users : hash.HashMap PinKey (ℕ × ℕ) S)
    → HasFirstHops placed users → IsRestOfHops placed wire 0 hops users
left_first placed wire hops users pins = record { before = placed; pins = pins; left = refl; all = refl }

none_before : (before : Option PlacedHop) → None ≡ option_map numbers before → before ≡ None
none_before None is = refl
none_before (Some earlier) is = cc

module _ {S : Type 0} (placed : List PlacedHop) (wire number : ℕ) (hops : List Hop) (users : hash.HashMap PinKey (ℕ × ℕ) S) (now : IsRestOfHops placed wire number hops users) (hop : Hop) (within : number < length hops) (default : Hop) (is : hop ≡ get_or hops number default) where
  here : hops_placed wire number (drop number hops) ≡ placed_at wire number hop ∷ hops_placed wire (number + 1) (drop (number + 1) hops)
  here = rw (add-one, drop-cons hops number default within, ← is) refl

  -- a hop that shares no pin leaves the rest
  pub left_next : (after : hash.HashMap PinKey (ℕ × ℕ) S) → user_in users hop ≡ None
      → (HasFirstHops now.before users → HasFirstHops (now.before ++ placed_at wire number hop ∷ []) after)
      → IsRestOfHops placed wire (number + 1) hops after
  left_next after free give = record {
    before = now.before ++ placed_at wire number hop ∷ [];
    pins = give now.pins;
    left =
        let none : first_sharing now.before hop ≡ None = none_before (first_sharing now.before hop) (sym free ∙ now.pins hop) in
        let rest = clash_behind (now.before ++ placed_at wire number hop ∷ []) (hops_placed wire (number + 1) (drop (number + 1) hops)) in
        sym (ap (λ (found : Option PlacedHop). option_or (option_map (λ (earlier : PlacedHop). PinClash earlier.wire earlier.number wire number) found) rest) none)
        ∙ sym (ap (clash_behind now.before) here) ∙ now.left;
    all = append_assoc now.before (placed_at wire number hop ∷ []) (hops_placed wire (number + 1) (drop (number + 1) hops)) ∙ sym (ap (λ (more : List PlacedHop). now.before ++ more) here) ∙ now.all;
  }

  some_before : (before : Option PlacedHop) (first_wire first_number : ℕ) (rest : Option PlanFault)
      → Some (first_wire, first_number) ≡ option_map numbers before
      → Some (PinClash first_wire first_number wire number) ≡ option_or (option_map (λ (earlier : PlacedHop). PinClash earlier.wire earlier.number wire number) before) rest
  some_before None first_wire first_number rest is = cc
  some_before (Some earlier) first_wire first_number rest is =
      let parts = some_pair_parts first_wire earlier.wire first_number earlier.number is in
      ap₂ (λ (one other : ℕ). Some (PinClash one other wire number)) parts.0 parts.1

  -- and one that shares a pin is the first of them
  pub left_clash : (first_wire first_number : ℕ) → user_in users hop ≡ Some (first_wire, first_number)
      → Some (PinClash first_wire first_number wire number) ≡ clash_behind placed (hops_placed wire 0 hops)
  left_clash first_wire first_number used =
      some_before (first_sharing now.before hop) first_wire first_number (clash_behind (now.before ++ placed_at wire number hop ∷ []) (hops_placed wire (number + 1) (drop (number + 1) hops))) (sym used ∙ now.pins hop)
      ∙ sym (ap (clash_behind now.before) here) ∙ now.left

pub left_end : {S : Type 0} (placed : List PlacedHop) (wire number : ℕ) (hops : List Hop) (users : hash.HashMap PinKey (ℕ × ℕ) S)
    → IsRestOfHops placed wire number hops users → length hops ≤ number
    → (None ≡ clash_behind placed (hops_placed wire 0 hops)) × HasFirstHops (placed ++ hops_placed wire 0 hops) users
left_end placed wire number hops users now past =
    let none : drop number hops ≡ [] = drop_all number hops past in
    let all : now.before ++ [] ≡ placed ++ hops_placed wire 0 hops = rw none at now.all in
    (rw none at now.left, subst (λ (list : List PlacedHop). HasFirstHops list users) (sym (append-nil now.before) ∙ all) now.pins)

-- ---- wire by wire

abbrev clash_of : Option PlacedHop → PlacedHop → Option PlanFault
clash_of found later = option_map (λ (earlier : PlacedHop). PinClash earlier.wire earlier.number later.wire later.number) found

clash_behind-append : (before xs ys : List PlacedHop) → clash_behind before (xs ++ ys) ≡ option_or (clash_behind before xs) (clash_behind (before ++ xs) ys)
clash_behind-append before [] ys = ap (λ (all : List PlacedHop). clash_behind all ys) (sym (append-nil before))
clash_behind-append before (x ∷ xs) ys =
    let here = clash_of (first_sharing before x.hop) x in
    ap (option_or here) (clash_behind-append (before ++ x ∷ []) xs ys ∙ ap (λ (all : List PlacedHop). option_or (clash_behind (before ++ x ∷ []) xs) (clash_behind all ys)) (append_assoc before (x ∷ []) xs))
    ∙ sym (or_assoc here (clash_behind (before ++ x ∷ []) xs) (clash_behind (before ++ x ∷ xs) ys))

-- what is left of the wires, behind the hops that have their pins
pub record AreLeft {S : Type 0} (number : ℕ) (wires : List Wire) (users : hash.HashMap PinKey (ℕ × ℕ) S) : Type 0 where
  pub before : List PlacedHop
  pub pins : HasFirstHops before users
  pub left : clash_behind before (wires_placed number (drop number wires)) ≡ clash_behind [] (wires_placed 0 wires)

pub wires_first : {S : Type 0} (wires : List Wire) (users : hash.HashMap PinKey (ℕ × ℕ) S) → HasFirstHops [] users → AreLeft 0 wires users
wires_first wires users pins = record { before = []; pins = pins; left = refl }

module _ {S : Type 0} (number : ℕ) (wires : List Wire) (users after : hash.HashMap PinKey (ℕ × ℕ) S) (now : AreLeft number wires users) (wire : Wire) (within : number < length wires) (is : wire ≡ get_or wires number wire) (hops : List Hop) (are : hops ≡ wire.hops) (found : Option PlanFault) (clash : IsClashIn number hops users after found) where
  rest_of : List PlacedHop → Option PlanFault
  rest_of before = clash_behind before (wires_placed (number + 1) (drop (number + 1) wires))

  split : option_or found (rest_of (now.before ++ hops_placed number 0 hops)) ≡ clash_behind [] (wires_placed 0 wires)
  unfolding rest_of
  split =
      let here : wires_placed number (drop number wires) ≡ hops_placed number 0 hops ++ wires_placed (number + 1) (drop (number + 1) wires) = rw (add-one, drop-cons wires number wire within, ← is, are) refl in
      ap (λ (one : Option PlanFault). option_or one (rest_of (now.before ++ hops_placed number 0 hops))) (clash now.before now.pins).0
      ∙ sym (clash_behind-append now.before (hops_placed number 0 hops) (wires_placed (number + 1) (drop (number + 1) wires)))
      ∙ ap (clash_behind now.before) (sym here) ∙ now.left

  -- a wire without a clash leaves the rest
  pub wires_next : found ≡ None → AreLeft (number + 1) wires after
  unfolding rest_of
  wires_next none = record {
    before = now.before ++ hops_placed number 0 hops;
    pins = (clash now.before now.pins).1 none;
    left = ap (λ (one : Option PlanFault). option_or one (rest_of (now.before ++ hops_placed number 0 hops))) (sym none) ∙ split;
  }

  some_or : (one : Option PlanFault) (rest : Option PlanFault) → is_some one ≡ true → option_or one rest ≡ one
  some_or None rest there = cc
  some_or (Some fault) rest there = refl

  -- and the first clash of a wire is the first of all that are left
  pub wires_clash : is_some found ≡ true → found ≡ clash_behind [] (wires_placed 0 wires)
  wires_clash there = sym (some_or found (rest_of (now.before ++ hops_placed number 0 hops)) there) ∙ split

pub wires_end : {S : Type 0} (number : ℕ) (wires : List Wire) (users : hash.HashMap PinKey (ℕ × ℕ) S) → AreLeft number wires users
    → length wires ≤ number → None ≡ clash_behind [] (wires_placed 0 wires)
wires_end number wires users now past = rw (drop_all number wires past) at now.left

-- ---- the definition, which takes the hops before each place

by_place : (before xs : List PlacedHop) (place : ℕ) (all : List PlacedHop) → place ≡ length before → all ≡ before ++ xs
    → clash_behind before xs ≡ first_at (λ at later. clash_of (first_sharing (take at all) later.hop) later) place xs
by_place before [] place all long is = refl
by_place before (x ∷ xs) place all long is =
    let earlier : take place all ≡ before = ap₂ (λ (count : ℕ) (list : List PlacedHop). take count list) long is ∙ take-append_seam before (x ∷ xs) in
    let longer : suc place ≡ length (before ++ x ∷ []) = omega (arith, long, length-append before (x ∷ [])) in
    ap₂ (λ (here rest : Option PlanFault). option_or here rest) (ap (λ (list : List PlacedHop). clash_of (first_sharing list x.hop) x) (sym earlier)) (by_place (before ++ x ∷ []) xs (suc place) all longer (is ∙ sym (append_assoc before (x ∷ []) xs)))

pub clash_behind-pin_clash : (plan : Plan) → clash_behind [] (wires_placed 0 plan.wires) ≡ pin_clash plan
clash_behind-pin_clash plan = by_place [] (wires_placed 0 plan.wires) 0 (wires_placed 0 plan.wires) refl refl

-- a hop for a place past the end
abbrev pub no_hop : Hop
no_hop = record { from = 0; to = 0; pin = 0; at = 0 }
