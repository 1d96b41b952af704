-- A part of a list: its elements from one position to another.
use Rattle.std.proofs.Common.{◌≡◌, ◌≤◌, ◌+◌, ℕ, zero, suc, List, [], ◌∷◌, ◌++◌, length, take, drop, slice_get, Some, sym, refl, ap, subst, arith}

module _ {X : Type 0} where
  some_is : (x y : X) → Some x ≡ Some y → x ≡ y
  some_is x y is = cc is

  more : (words : List X) (taken sent : ℕ) (word : X) → taken ≤ sent → slice_get words sent ≡ Some word → (suc sent ≤ length words) × (drop taken (take sent words) ++ word ∷ [] ≡ drop taken (take (suc sent) words))
  more [] taken sent word ordered next = absurd (cc next)
  more (x ∷ xs) zero zero word ordered next = (omega arith, ap (λ (y : X). y ∷ []) (sym (some_is x word next)))
  more (x ∷ xs) zero (suc sent) word ordered next = let rest = more xs zero sent word (omega arith) next in let longer = rest.0 in (omega (arith, longer), ap (λ (all : List X). x ∷ all) rest.1)
  more (x ∷ xs) (suc taken) zero word ordered next = absurd (omega (arith, ordered))
  more (x ∷ xs) (suc taken) (suc sent) word ordered next = let rest = more xs taken sent word (omega (arith, ordered)) next in let longer = rest.0 in (omega (arith, longer), rest.1)

  -- there is none in an empty list
  pub part_none : (taken sent : ℕ) → drop taken (take {A = X} sent []) ≡ []
  part_none zero zero = refl
  part_none zero (suc sent) = refl
  part_none (suc taken) zero = refl
  part_none (suc taken) (suc sent) = refl

  -- one more at its end
  pub part_longer : (words : List X) (taken sent : ℕ) (word : X) → taken ≤ sent → slice_get words sent ≡ Some word → (sent + 1 ≤ length words) × (drop taken (take sent words) ++ word ∷ [] ≡ drop taken (take (sent + 1) words))
  part_longer words taken sent word ordered next =
      let one : suc sent ≡ sent + 1 = omega arith in
      subst (λ (up : ℕ). (up ≤ length words) × (drop taken (take sent words) ++ word ∷ [] ≡ drop taken (take up words))) one (more words taken sent word ordered next)

  -- it has no more elements than stand before its end
  pub part_length : (words : List X) (taken sent : ℕ) → length (drop taken (take sent words)) ≤ sent
  part_length [] zero zero = omega arith
  part_length [] zero (suc sent) = omega arith
  part_length [] (suc taken) zero = omega arith
  part_length [] (suc taken) (suc sent) = omega arith
  part_length (x ∷ xs) zero zero = omega arith
  part_length (x ∷ xs) (suc taken) zero = omega arith
  part_length (x ∷ xs) zero (suc sent) = omega (arith, part_length xs zero sent)
  part_length (x ∷ xs) (suc taken) (suc sent) = omega (arith, part_length xs taken sent)

  less : (words : List X) (taken sent : ℕ) (word : X) (items : List X) → drop taken (take sent words) ≡ word ∷ items → (suc taken ≤ sent) × (slice_get words taken ≡ Some word) × (drop (suc taken) (take sent words) ≡ items)
  less [] zero zero word items is = absurd (cc is)
  less [] zero (suc sent) word items is = absurd (cc is)
  less [] (suc taken) zero word items is = absurd (cc is)
  less [] (suc taken) (suc sent) word items is = absurd (cc is)
  less (x ∷ xs) zero zero word items is = absurd (cc is)
  less (x ∷ xs) (suc taken) zero word items is = absurd (cc is)
  less (x ∷ xs) zero (suc sent) word items is = (omega arith, cc is, cc is)
  less (x ∷ xs) (suc taken) (suc sent) word items is = let rest = less xs taken sent word items is in let ordered = rest.0 in (omega (arith, ordered), rest.1, rest.2)

  -- its first element, and the rest
  pub part_begins : (words : List X) (taken sent : ℕ) (word : X) (items : List X) → drop taken (take sent words) ≡ word ∷ items → (taken + 1 ≤ sent) × (slice_get words taken ≡ Some word) × (drop (taken + 1) (take sent words) ≡ items)
  part_begins words taken sent word items is =
      let one : suc taken ≡ taken + 1 = omega arith in
      subst (λ (up : ℕ). (up ≤ sent) × (slice_get words taken ≡ Some word) × (drop up (take sent words) ≡ items)) one (less words taken sent word items is)

  upto : (words : List X) (taken : ℕ) (word : X) → slice_get words taken ≡ Some word → take taken words ++ word ∷ [] ≡ take (suc taken) words
  upto [] taken word next = absurd (cc next)
  upto (x ∷ xs) zero word next = ap (λ (y : X). y ∷ []) (sym (some_is x word next))
  upto (x ∷ xs) (suc taken) word next = ap (λ (all : List X). x ∷ all) (upto xs taken word next)

  -- the elements up to a position, with the one that stands there
  pub take_more : (words : List X) (taken : ℕ) (word : X) → slice_get words taken ≡ Some word → take taken words ++ word ∷ [] ≡ take (taken + 1) words
  take_more words taken word next =
      let one : suc taken ≡ taken + 1 = omega arith in
      subst (λ (up : ℕ). take taken words ++ word ∷ [] ≡ take up words) one (upto words taken word next)
