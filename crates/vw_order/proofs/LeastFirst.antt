-- A circle from its least number on.
use Rattle.std.proofs.Common.{◌≡◌, ◌<◌, ◌≤◌, ◌+◌, ℕ, zero, suc, true, List, [], ◌∷◌, ◌++◌, length, length-append, length-drop, take, drop, get_or, ⊎_elim, sym, ◌∙◌, ap, subst, eqb, arith}
use Rattle.std.specs.List.{IsDistinct}
use Rattle.std.proofs.lemmas.Bool.{cases_lt}
use Rattle.std.proofs.lemmas.List.{take-append-drop, length-take, get_or-drop, get_or_append_left}
use Rattle.std.proofs.lemmas.List.Sorted.{IsPermutation-append_comm}
use Rattle.std.proofs.lemmas.Map.Keys.{IsDistinct-IsPermutation}
use Rattle.vw_net.proofs.Orders.{among_at, at_among}
use Rattle.vw_net.specs.Order.{is_among}
use Rattle.vw_order.specs.Graphs.{Graph, Reads}
use Rattle.vw_order.specs.Circles.{IsNumberCircle, BeginsWithLeast}
use Rattle.vw_order.specs.Steps.Rounds.{IsLeast}
use Rattle.vw_order.proofs.Among.{among_left, among_right, among_either}
use Rattle.vw_net.proofs.Orders.{eqb_comm}
use Rattle.vw_order.proofs.Rounds.{turns}

-- a circle from one of its places on
module _ (circle : List ℕ) (start : ℕ) (within : start < length circle) where
  round_among : (number : ℕ) → is_among (drop start circle ++ take start circle) number ≡ true → is_among circle number ≡ true
  round_among number among =
      ap (λ (l : List ℕ). is_among l number) (sym (take-append-drop start circle))
      ∙ ⊎_elim (λ back. among_right (take start circle) (drop start circle) number back) (λ front. among_left (take start circle) (drop start circle) number front) (among_either (drop start circle) (take start circle) number among)

  pub round_long : length (drop start circle ++ take start circle) ≡ length circle
  round_long = omega (arith, length-append (drop start circle) (take start circle), length-drop start circle, length-take start circle, within)

  pub round_first : get_or (drop start circle ++ take start circle) 0 0 ≡ get_or circle start 0
  round_first =
      get_or_append_left (drop start circle) (take start circle) 0 0 (omega (arith, length-drop start circle, within))
      ∙ get_or-drop start circle 0 0 ∙ ap (λ (n : ℕ). get_or circle n 0) (let e : start + 0 ≡ start = omega arith in e)

  round_circle : (graph : Graph) → IsNumberCircle graph circle → IsNumberCircle graph (drop start circle ++ take start circle)
  round_circle graph is_circle = record {
    some = omega (arith, round_long, is_circle.some);
    counted = λ number among. is_circle.counted number (round_among number among);
    once = IsDistinct-IsPermutation eqb eqb_comm (take start circle ++ drop start circle) (drop start circle ++ take start circle) (IsPermutation-append_comm (take start circle) (drop start circle))
        (subst (λ (l : List ℕ). IsDistinct eqb l) (sym (take-append-drop start circle)) is_circle.once);
    each = turns (Reads graph) start circle (omega (arith, within)) is_circle.each;
  }

pub from_least : (graph : Graph) (circle : List ℕ) (start : ℕ) → IsLeast circle start → IsNumberCircle graph circle
    → IsNumberCircle graph (drop start circle ++ take start circle) × BeginsWithLeast (drop start circle ++ take start circle)
from_least graph circle start least is_circle = (round_circle circle start least.0 graph is_circle, begins) where
  begins : BeginsWithLeast (drop start circle ++ take start circle)
  begins = λ i inside.
      let at = among_at circle (get_or (drop start circle ++ take start circle) i 0) (round_among circle start least.0 (get_or (drop start circle ++ take start circle) i 0) (at_among (drop start circle ++ take start circle) i 0 inside)) in
      let most : get_or circle start 0 ≤ get_or circle at.0 0 = least.1 at.0 at.1 in
      omega (arith, round_first circle start least.0, most, at.2)

-- some number is the least
only_least : (number other : ℕ) → other < 1 → number ≤ get_or (number ∷ []) other 0
only_least number zero before = omega arith
only_least number (suc other) before = absurd (omega arith)

first_or_later : (first : ℕ) (rest : List ℕ) (least : ℕ) → least ≤ first → ((other : ℕ) → other < length rest → least ≤ get_or rest other 0)
    → (other : ℕ) → other < suc (length rest) → least ≤ get_or (first ∷ rest) other 0
first_or_later first rest least most later zero before = most
first_or_later first rest least most later (suc other) before = later other (omega arith)

least_of : (numbers : List ℕ) → 0 < length numbers → (place : ℕ) × IsLeast numbers place
least_of [] some = absurd (omega arith)
least_of (number ∷ []) some = (0, (omega arith, only_least number))
least_of (number ∷ next ∷ rest) some = by (least_of (next ∷ rest) (omega arith)) where
  by : (place : ℕ) × IsLeast (next ∷ rest) place → (place : ℕ) × IsLeast (number ∷ next ∷ rest) place
  by least = ⊎_elim
      (λ smaller. (suc least.0, (omega (arith, least.1.0), first_or_later number (next ∷ rest) (get_or (next ∷ rest) least.0 0) (omega arith) least.1.1)))
      (λ first. (0, (omega arith, first_or_later number (next ∷ rest) number (omega arith) (λ other before. omega (arith, first, least.1.1 other before)))))
      (cases_lt (get_or (next ∷ rest) least.0 0) number)

-- so where there is a circle, there is one that begins with its least number
pub has_least : (graph : Graph) (circle : List ℕ) → IsNumberCircle graph circle → (numbers : List ℕ) × IsNumberCircle graph numbers × BeginsWithLeast numbers
has_least graph circle is_circle =
    let least = least_of circle is_circle.some in
    let turned = from_least graph circle least.0 least.1 is_circle in
    (drop least.0 circle ++ take least.0 circle, turned.0, turned.1)
