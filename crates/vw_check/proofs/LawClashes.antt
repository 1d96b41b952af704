-- Hops that share a pin, and the point of a sound plan that they break.
use Rattle.std.proofs.Common.{◌≡◌, ◌<◌, ◌≤◌, not, ℕ, zero, suc, Bool, true, false, List, [], ◌∷◌, ◌++◌, length, take, map, Option, Some, None, option_map, cond, get_or, refl, sym, subst, ◌∙◌, ap, ap₂, All, IsTrue, true≢false, arith}
use Rattle.std.specs.List.{AllPairs, flat_map}
use Rattle.std.proofs.lemmas.Bool.{not_from_false, not-true}
use Rattle.std.proofs.lemmas.Option.{none-some}
use Rattle.std.proofs.Math.ListN.{get_or-map}
use Rattle.std.proofs.lemmas.List.{get_or-take, length-map, length-take-le}
use Rattle.std.proofs.lemmas.List.Elements.{All-nil, All-cons, All-head, All-tail}
use Rattle.vw_plan.specs.declared.plan.Plan.{Plan}
use Rattle.vw_plan.specs.declared.wire.Hop.{Hop}
use Rattle.vw_plan.specs.declared.wire.Wire.{Wire}
use Rattle.vw_plan.specs.PlannedBoard.{PlannedBoard}
use Rattle.vw_plan.specs.Sound.{hops_of, share_pin}
use Rattle.vw_check.specs.declared.fault.PlanFault.{PlanFault}
use Rattle.vw_check.specs.declared.fault.PlanFault.TheVariants.{PinClash}
use Rattle.vw_check.specs.HopFaults.{PlacedHop, hops_placed, wires_placed, first_sharing, pin_clash}
use Rattle.vw_check.specs.Answers.{Breaks}
use Rattle.vw_net.proofs.FirstFound.{EachAt, each_none, none_each, each_or-zero, or_each-zero, first_is}

-- ---- the hops of a plan, with and without their places

hops_of_placed : (wire number : ℕ) (hops : List Hop) → map (λ placed. placed.hop) (hops_placed wire number hops) ≡ hops
hops_of_placed wire number [] = refl
hops_of_placed wire number (hop ∷ hops) = ap (λ (rest : List Hop). hop ∷ rest) (hops_of_placed wire (suc number) hops)

map_append : {X Y : Type 0} (f : X → Y) (xs ys : List X) → map f (xs ++ ys) ≡ map f xs ++ map f ys
map_append f [] ys = refl
map_append f (x ∷ xs) ys = ap (λ (rest : List _). f x ∷ rest) (map_append f xs ys)

hops_of_wires : (number : ℕ) (wires : List Wire) → map (λ placed. placed.hop) (wires_placed number wires) ≡ flat_map (λ wire. wire.hops) wires
hops_of_wires number [] = refl
hops_of_wires number (wire ∷ wires) =
    map_append (λ placed. placed.hop) (hops_placed number 0 wire.hops) (wires_placed (suc number) wires)
    ∙ ap₂ (λ (here rest : List Hop). here ++ rest) (hops_of_placed number 0 wire.hops) (hops_of_wires (suc number) wires)

-- ---- none of some hops shares a pin

abbrev ShareNoPin : PlacedHop → PlacedHop → Type 0
ShareNoPin one other = share_pin one.hop other.hop ≡ false

abbrev clash_with : PlacedHop → PlacedHop → PlanFault
clash_with later earlier = PinClash earlier.wire earlier.number later.wire later.number

none_step : (shares : Bool) (earlier later : PlacedHop) (rest : Option PlacedHop)
    → option_map (clash_with later) (cond shares (Some earlier) rest) ≡ None
    → (shares ≡ false) × (option_map (clash_with later) rest ≡ None)
none_step true earlier later rest none = absurd (none-some (clash_with later earlier) (sym none))
none_step false earlier later rest none = (refl, none)

none_found : (placed : List PlacedHop) (later : PlacedHop) → option_map (clash_with later) (first_sharing placed later.hop) ≡ None
    → All (λ earlier. ShareNoPin earlier later) placed
none_found [] later none = All-nil (λ earlier. ShareNoPin earlier later)
none_found (earlier ∷ placed) later none =
    let step = none_step (share_pin earlier.hop later.hop) earlier later (first_sharing placed later.hop) none in
    All-cons (λ one. ShareNoPin one later) earlier placed step.0 (none_found placed later step.1)

found_step : (shares : Bool) (earlier later : PlacedHop) (rest : Option PlacedHop) → shares ≡ false
    → option_map (clash_with later) rest ≡ None → option_map (clash_with later) (cond shares (Some earlier) rest) ≡ None
found_step true earlier later rest here none = absurd (true≢false here)
found_step false earlier later rest here none = none

found_none : (placed : List PlacedHop) (later : PlacedHop) → All (λ earlier. ShareNoPin earlier later) placed
    → option_map (clash_with later) (first_sharing placed later.hop) ≡ None
found_none [] later all = refl
found_none (earlier ∷ placed) later all =
    found_step (share_pin earlier.hop later.hop) earlier later (first_sharing placed later.hop) (All-head (λ one. ShareNoPin one later) earlier placed all) (found_none placed later (All-tail (λ one. ShareNoPin one later) earlier placed all))

-- ---- pairs, and each hop with those before it

abbrev BeforeNone : List PlacedHop → ℕ → PlacedHop → Type 0
BeforeNone placed place later = option_map (clash_with later) (first_sharing (take place placed) later.hop) ≡ None

taken : {X : Type 0} (xs : List X) (i n : ℕ) (default : X) → i < n → n ≤ length xs
    → (get_or (take n xs) i default ≡ get_or xs i default) × (i < length (take n xs))
taken xs i n default below within = (get_or-take n xs i default below, omega (arith, length-take-le n xs within))

same_default : {X : Type 0} (xs : List X) (i : ℕ) (one other : X) → i < length xs → get_or xs i one ≡ get_or xs i other
same_default [] i one other below = absurd (omega arith)
same_default (x ∷ xs) zero one other below = refl
same_default (x ∷ xs) (suc i) one other below = same_default xs i one other (omega arith)

module _ (plan : Plan) where
  abbrev placed : List PlacedHop
  placed = wires_placed 0 plan.wires

  pairs_of_each : EachAt (BeforeNone placed) 0 placed → AllPairs ShareNoPin placed
  pairs_of_each each i j default before below =
      let late = none_found (take j placed) (get_or placed j default) (each_or-zero (BeforeNone placed) placed each j default below) in
      let at = taken placed i j default before (omega arith) in
      subst (λ (one : PlacedHop). ShareNoPin one (get_or placed j default)) at.0 (late i default at.1)

  each_of_pairs : AllPairs ShareNoPin placed → EachAt (BeforeNone placed) 0 placed
  each_of_pairs all =
      or_each-zero (BeforeNone placed) placed
      (λ j default below.
      found_none (take j placed) (get_or placed j default)
      (λ i other within.
      let size = length-take-le j placed (omega arith) in
      let at = taken placed i j other (omega (arith, within, size)) (omega arith) in
      subst (λ (one : PlacedHop). ShareNoPin one (get_or placed j default)) (sym at.0)
      (subst (λ (one : PlacedHop). ShareNoPin (get_or placed i other) one) (same_default placed j other default below) (all i j other (omega (arith, within, size)) below))))

  abbrev no_place : Hop → PlacedHop
  no_place hop = record { wire = 0; number = 0; hop = hop }

  abbrev HopsShareNoPin : Hop → Hop → Type 0
  HopsShareNoPin one other = IsTrue (not (share_pin one other))

  hops_same : map (λ one. one.hop) placed ≡ hops_of plan
  hops_same = hops_of_wires 0 plan.wires

  pub none_shared : pin_clash plan ≡ None → AllPairs HopsShareNoPin (hops_of plan)
  none_shared none =
      let pairs = pairs_of_each (each_none (λ place later. option_map (clash_with later) (first_sharing (take place placed) later.hop)) 0 placed none) in
      subst (AllPairs HopsShareNoPin) hops_same
      (λ i j hop before below.
      let inside : j < length placed = omega (arith, below, length-map placed (λ one. one.hop)) in
      let here = get_or-map (λ one. one.hop) placed i (no_place hop) in
      let there = get_or-map (λ one. one.hop) placed j (no_place hop) in
      rw (here, there) (not_from_false (share_pin (get_or placed i (no_place hop)).hop (get_or placed j (no_place hop)).hop) (pairs i j (no_place hop) before inside)))

  pub no_pin_clash : AllPairs HopsShareNoPin (hops_of plan) → pin_clash plan ≡ None
  no_pin_clash all =
      none_each (λ place later. option_map (clash_with later) (first_sharing (take place placed) later.hop)) 0 placed
      (each_of_pairs
      (λ i j default before below.
      let moved = subst (AllPairs HopsShareNoPin) (sym hops_same) all in
      let inside : j < length (map (λ one. one.hop) placed) = omega (arith, below, length-map placed (λ one. one.hop)) in
      let here = get_or-map (λ one. one.hop) placed i default in
      let there = get_or-map (λ one. one.hop) placed j default in
      let apart = moved i j default.hop before inside in
      not-true (share_pin (get_or placed i default).hop (get_or placed j default).hop)
      (subst (λ (one : Hop). HopsShareNoPin (get_or placed i default).hop one) there (subst (λ (one : Hop). HopsShareNoPin one (get_or (map (λ one. one.hop) placed) j default.hop)) here apart))))

  clash_is : (planned : PlannedBoard) → (P : PlanFault → Type 0) → ((wire number other clash : ℕ) → P (PinClash wire number other clash))
      → (later : PlacedHop) (found : Option PlacedHop) (fault : PlanFault) → option_map (clash_with later) found ≡ Some fault → P fault
  clash_is planned P each later None fault is = absurd (none-some fault is)
  clash_is planned P each later (Some earlier) fault is =
      let same : clash_with later earlier ≡ fault = cc in
      subst P same (each earlier.wire earlier.number later.wire later.number)

pub pin_clash_breaks : (planned : PlannedBoard) (fault : PlanFault) → pin_clash planned.plan ≡ Some fault → Breaks planned fault
pin_clash_breaks planned fault is =
    first_is (λ place later. option_map (clash_with later) (first_sharing (take place (placed planned.plan)) later.hop)) (Breaks planned)
    (λ place later found its. clash_is planned.plan planned (Breaks planned) (λ wire number other clash sound. none-some fault (sym (no_pin_clash planned.plan sound) ∙ is)) later (first_sharing (take place (placed planned.plan)) later.hop) found its)
    0 (placed planned.plan) fault is
