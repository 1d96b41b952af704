-- Orders by several numbers, one after the other: that things of which none is before the other have the same numbers.
use Rattle.std.proofs.Common.{◌≡◌, ◌<◌, ℕ, Bool, true, false, cond, nat_lt, eqb, refl, true≢false, eqb-true, eq-eqb, lt-ltb, le-ltb, arith}
use Rattle.std.specs.Ordering.{is_lt, nat_cmp, ordering_reverse, ordering_then}
use Rattle.std.specs.Cmp.{IsTotalOrder}
use Rattle.std.specs.declared.cmp.Ordering.{Ordering}
use Rattle.std.specs.declared.cmp.Ordering.TheVariants.{Less, Equal, Greater}

-- two comparisons, one after the other, are equal where both are
pub then_equal : (first second : Ordering) → ordering_then first second ≡ Equal → (first ≡ Equal) × (second ≡ Equal)
then_equal Less second is = cc
then_equal Equal second is = (refl, is)
then_equal Greater second is = cc

-- the same of the two tests of a comparison
by_tests : (less same : Bool) → cond less Less (cond same Equal Greater) ≡ Equal → same ≡ true
by_tests true same is = cc
by_tests false true is = refl
by_tests false false is = cc

-- numbers that compare as equal are
pub nat_cmp-equal : (a b : ℕ) → nat_cmp a b ≡ Equal → a ≡ b
nat_cmp-equal a b is = eqb-true a b (by_tests (nat_lt a b) (eqb a b) is)

-- a comparison, and the same turned round, neither of which is less
pub equal_from : (one other : Ordering) → one ≡ ordering_reverse other → is_lt one ≡ false → is_lt other ≡ false → one ≡ Equal
equal_from Less other turned one_not other_not = absurd (true≢false one_not)
equal_from Equal other turned one_not other_not = refl
equal_from Greater Less turned one_not other_not = absurd (true≢false other_not)
equal_from Greater Equal turned one_not other_not = cc
equal_from Greater Greater turned one_not other_not = cc

-- so where neither of two things is before the other, they compare as equal
pub neither_before : {X : Type 0} (cmp : X → X → Ordering) → IsTotalOrder cmp → (one other : X) → is_lt (cmp one other) ≡ false → is_lt (cmp other one) ≡ false → cmp one other ≡ Equal
neither_before cmp total one other one_not other_not = equal_from (cmp one other) (cmp other one) (total.antisymm one other) one_not other_not

-- a lower number comes first, whatever is compared then
pub less_first : (a b : ℕ) (then : Ordering) → a < b → is_lt (ordering_then (nat_cmp a b) then) ≡ true
less_first a b then less = let is : nat_lt a b ≡ true = lt-ltb a b less in rw is refl

-- and where the numbers are the same, what is compared then tells
pub same_first : (a b : ℕ) (then : Ordering) → a ≡ b → is_lt (ordering_then (nat_cmp a b) then) ≡ is_lt then
same_first a b then same =
    let not_less : nat_lt a b ≡ false = le-ltb a b (omega arith) in
    let is : eqb a b ≡ true = eq-eqb a b same in
    rw (not_less, is) refl
