-- How many words are sent over a link in some microcycles.
use Rattle.std.proofs.Common.{◌≡◌, ◌<◌, ◌≤◌, ◌+◌, ◌*◌, ◌&&◌, ◌∷◌, ℕ, zero, suc, Bool, true, false, List, [], eqb, nat_lt, ap, refl, le-ltb, arith}
use Rattle.std.specs.List.{count_by}
use Rattle.std.proofs.lemmas.Bool.Decides.{nat_tests}
use Rattle.vw_net.specs.Steps.Bits.{one_if}
use Rattle.vw_net.proofs.CountsOverLists.{count_add, count_cons}

below_more : (n k : ℕ) → one_if (nat_lt n (suc k)) ≡ one_if (nat_lt n k) + one_if (eqb n k)
below_more n k = grind (arith, nat_tests)

and_one : (test : Bool) (a b c : ℕ) (x y z : Bool) → one_if x ≡ one_if y + one_if z → one_if (test && x) ≡ one_if (test && y) + one_if (test && z)
and_one true a b c x y z is = is
and_one false a b c x y z is = omega arith

-- where each number of some is had at most so often, all of them together are had at most as often as that many times
pub count_numbers : {X : Type 0} (test : X → Bool) (number : X → ℕ) (xs : List X) (most count : ℕ)
    → ((k : ℕ) → k < count → count_by (λ x. test x && eqb (number x) k) xs ≤ most)
    → count_by (λ x. test x && nat_lt (number x) count) xs ≤ count * most
count_numbers {X = X} test number xs most zero each = omega (arith, none xs) where
  not_passed : (x : X) → (test x && nat_lt (number x) 0) ≡ false
  not_passed x = no_and (test x) (nat_lt (number x) 0) (le-ltb (number x) 0 (omega arith)) where
    no_and : (one two : Bool) → two ≡ false → (one && two) ≡ false
    no_and true two is = is
    no_and false two is = refl

  none : (list : List X) → count_by (λ x. test x && nat_lt (number x) 0) list ≡ 0
  none [] = refl
  none (x ∷ list) = omega (arith, count_cons (λ y. test y && nat_lt (number y) 0) x list, none list, ap one_if (not_passed x))
count_numbers {X = X} test number xs most (suc count) each =
    let below = λ (x : X). test x && nat_lt (number x) count in
    let last = λ (x : X). test x && eqb (number x) count in
    let both = λ (x : X). test x && nat_lt (number x) (suc count) in
    let rest = count_numbers test number xs most count (λ k below. each k (omega (arith, below))) in
    let split = count_add below last both xs (λ x.
    and_one (test x) 0 0 0 (nat_lt (number x) (suc count)) (nat_lt (number x) count) (eqb (number x) count) (below_more (number x) count)) in
    let product : suc count * most ≡ count * most + most = grind arith in
    omega (arith, rest, split, each count (omega arith), product)
