-- A pin has one user in each microcycle at most, so it has no more of them than the period.
use Rattle.std.proofs.Common.{◌≡◌, ◌<◌, ◌≤◌, ◌+◌, ◌++◌, ◌∙◌, ℕ, zero, suc, Bool, true, false, List, [], ◌∷◌, length, slice_get, Some, if◌then◌else◌, ap, ap₂, refl, arith}
use Rattle.std.proofs.lemmas.List.{length-append}
use Rattle.vw_net.specs.Gathered.{gather, listed}
use Rattle.vw_net.proofs.ListedLists.{from_listed, from_when, stands_below}
use Rattle.vw_plan.specs.PlannedBoard.{PlannedBoard}
use Rattle.vw_plan.specs.Sound.{IsSound}
use Rattle.vw_plan.specs.declared.link.Link.{Link}
use Rattle.vw_plan.specs.declared.wire.Hop.{Hop}
use Rattle.vw_plan.specs.declared.wire.Wire.{Wire}
use Rattle.vw_plan.proofs.OneHopAPin.{only_user}
use Rattle.vw_emit_hardware.specs.Items.{leaves_by, users, users_at, wire_users}
use Rattle.vw_emit_hardware.proofs.Users.{shares, user_of}

-- ---- lists of which one element gives anything

module _ {A X : Type 0} where
  none_listed : (each : ℕ → A → List X) (number : ℕ) (xs : List A)
      → ((place : ℕ) (x : A) → slice_get xs place ≡ Some x → each (number + place) x ≡ []) → listed each number xs ≡ []
  none_listed each number [] none = refl
  none_listed each number (x ∷ xs) none =
      let zero_on : number ≡ number + 0 = omega arith in
      ap₂ (λ (front back : List X). front ++ back) (ap (λ (k : ℕ). each k x) zero_on ∙ none 0 x refl)
      (none_listed each (suc number) xs (λ place y at. let one : suc number + place ≡ number + suc place = omega arith in ap (λ (k : ℕ). each k y) one ∙ none (suc place) y at))

  pub few_listed : (each : ℕ → A → List X) (number : ℕ) (xs : List A)
      → ((place : ℕ) (x : A) → slice_get xs place ≡ Some x → length (each (number + place) x) ≤ 1)
      → ((i j : ℕ) (x y : A) → slice_get xs i ≡ Some x → slice_get xs j ≡ Some y → 0 < length (each (number + i) x) → 0 < length (each (number + j) y) → i ≡ j)
      → length (listed each number xs) ≤ 1
  few_listed each number [] few apart = omega arith
  few_listed each number (x ∷ xs) few apart =
      by (each number x) refl
      (few_listed each (suc number) xs (λ place y at. let one = ap (λ (k : ℕ). length (each k y)) (next place) in omega (arith, one, few (suc place) y at))
      (λ i j y z at_i at_j some other.
      let one = ap (λ (k : ℕ). length (each k y)) (next i) in
      let two = ap (λ (k : ℕ). length (each k z)) (next j) in
      let same = apart (suc i) (suc j) y z at_i at_j (omega (arith, some, one)) (omega (arith, other, two)) in
      omega (arith, same))) where
        next : (place : ℕ) → suc number + place ≡ number + suc place
        next place = omega arith

        empty : (place : ℕ) (y : A) → slice_get xs place ≡ Some y → 0 < length (each number x) → (given : List X)
            → each (suc number + place) y ≡ given → given ≡ []
        empty place y at some [] is = refl
        empty place y at some (z ∷ zs) is =
            let zero_on : number ≡ number + 0 = omega arith in
            let here = ap (λ (k : ℕ). length (each k x)) zero_on in
            let one = ap (λ (k : ℕ). length (each k y)) (next place) in
            let long = ap length is in
            let same = apart 0 (suc place) x y refl at (omega (arith, some, here)) (omega (arith, one, long)) in
            absurd (omega (arith, same))

        by : (given : List X) → each number x ≡ given → length (listed each (suc number) xs) ≤ 1 → length (given ++ listed each (suc number) xs) ≤ 1
        by [] is further = further
        by (z ∷ zs) is further =
            let zero_on : number ≡ number + 0 = omega arith in
            let long = ap length is in
            let here = ap (λ (k : ℕ). length (each k x)) zero_on in
            let one = few 0 x refl in
            let behind = ap length (none_listed each (suc number) xs (λ place y at. empty place y at (omega (arith, long)) (each (suc number + place) y) refl)) in
            let whole = length-append (z ∷ zs) (listed each (suc number) xs) in
            omega (arith, long, here, one, behind, whole)

module _ {X : Type 0} where
  pub few_gathered : (each : ℕ → List X) (count : ℕ) → ((number : ℕ) → length (each number) ≤ 1) → length (gather each count) ≤ count
  few_gathered each zero few = omega arith
  few_gathered each (suc count) few = omega (arith, length-append (gather each count) (each count), few_gathered each count few, few count)

-- ---- users

module _ (planned : PlannedBoard) (sound : IsSound planned) (link : Link) (pin : ℕ) where
  -- a hop of a wire that uses the pin in a microcycle
  record IsUser (at : ℕ) (is : Wire) : Type 0 where
    place : ℕ
    hop : Hop
    stands : slice_get is.hops place ≡ Some hop
    leaves : leaves_by link pin at hop ≡ true

  some_user : (at wire : ℕ) (is : Wire) → 0 < length (wire_users planned link pin at wire is) → IsUser at is
  some_user at wire is some =
      let each = λ (number : ℕ) (hop : Hop). if leaves_by link pin at hop then user_of planned link pin wire is number at hop ∷ [] else [] in
      let first = stands_below (wire_users planned link pin at wire is) 0 some in
      let of_hop = from_listed first.0 each 0 is.hops (0, first.1) in
      record { place = of_hop.place; hop = of_hop.item; stands = of_hop.at; leaves = (from_when (leaves_by link pin at of_hop.item) first.0 (user_of planned link pin wire is (0 + of_hop.place) at of_hop.item ∷ []) of_hop.stands).0 }

  few_of_wire : (at wire : ℕ) (is : Wire) → slice_get planned.plan.wires wire ≡ Some is → (number : ℕ) → length (wire_users planned link pin at number is) ≤ 1
  few_of_wire at wire is there number = few_listed (λ place hop. if leaves_by link pin at hop then user_of planned link pin number is place at hop ∷ [] else []) 0 is.hops (λ place hop stands. single (leaves_by link pin at hop) (0 + place) hop) apart where
    single : (test : Bool) (place : ℕ) (hop : Hop) → length (if test then user_of planned link pin number is place at hop ∷ [] else []) ≤ 1
    single true place hop = omega arith
    single false place hop = omega arith

    passes : (test : Bool) (place : ℕ) (hop : Hop) → 0 < length (if test then user_of planned link pin number is place at hop ∷ [] else []) → test ≡ true
    passes true place hop some = refl
    passes false place hop some = absurd (omega (arith, some))

    apart : (i j : ℕ) (one other : Hop) → slice_get is.hops i ≡ Some one → slice_get is.hops j ≡ Some other
        → 0 < length (if leaves_by link pin at one then user_of planned link pin number is (0 + i) at one ∷ [] else [])
        → 0 < length (if leaves_by link pin at other then user_of planned link pin number is (0 + j) at other ∷ [] else []) → i ≡ j
    apart i j one other at_i at_j some some_too =
        (only_user planned sound wire i wire j is is one other there at_i there at_j (shares planned link pin one other at (passes (leaves_by link pin at one) (0 + i) one some) (passes (leaves_by link pin at other) (0 + j) other some_too))).1

  few_at : (at : ℕ) → length (users_at planned link pin at) ≤ 1
  few_at at =
      few_listed (wire_users planned link pin at) 0 planned.plan.wires (λ wire is there. few_of_wire at wire is there (0 + wire))
      (λ i j one other at_i at_j some some_too.
      let first = some_user at (0 + i) one some in
      let second = some_user at (0 + j) other some_too in
      (only_user planned sound i first.place j second.place one other first.hop second.hop at_i first.stands at_j second.stands (shares planned link pin first.hop second.hop at first.leaves second.leaves)).0)

  pub few_users : length (users planned link pin) ≤ planned.plan.period
  few_users = few_gathered (users_at planned link pin) planned.plan.period few_at
