-- Lists that are gathered from numbers and from numbered elements.
use Rattle.std.proofs.Common.{◌≡◌, ◌∙◌, ◌++◌, ◌+◌, ◌-◌, ◌≤◌, ℕ, zero, suc, Bool, true, false, cond, List, [], ◌∷◌, length, map, slice_get, Some, ap, ap₂, refl, sym, append-nil, append_assoc, arith}
use Rattle.std.specs.List.{AllByRecursion, filter, flat_map, range_with_len}
use Rattle.std.proofs.lemmas.List.Concat.{flat_map_single}
use Rattle.std.proofs.lemmas.Option.{none-some, same_Some}
use Rattle.vw_net.specs.Gathered.{gather, listed}
use Rattle.vw_net.proofs.ListParts.{all_append}
use Rattle.vw_net.proofs.ListedLists.{gather_add, gather_agree, gather_none, gather_range}

module _ {X : Type 0} where
  -- the first number comes first
  pub gather_front : (each : ℕ → List X) (count : ℕ) → gather each (suc count) ≡ each 0 ++ gather (λ number. each (suc number)) count
  gather_front each zero = sym (append-nil (each 0))
  gather_front each (suc count) =
      ap (λ (front : List X). front ++ each (suc count)) (gather_front each count)
      ∙ append_assoc (each 0) (gather (λ number. each (suc number)) count) (each (suc count))

  -- what is there by a test
  pub gather_when : (test : Bool) (each : ℕ → List X) (count : ℕ) → gather (λ number. cond test (each number) []) count ≡ cond test (gather each count) []
  gather_when true each count = refl
  gather_when false each count = gather_none (λ number. []) count (λ number below. refl)

  -- where further numbers give nothing
  pub gather_upto : (each : ℕ → List X) (count more : ℕ) → count ≤ more → ((number : ℕ) → count ≤ number → each number ≡ [])
      → gather each more ≡ gather each count
  gather_upto each count more upto none =
      let all : more ≡ count + (more - count) = omega (arith, upto) in
      ap (gather each) all ∙ gather_add each count (more - count)
      ∙ ap (λ (rest : List X). gather each count ++ rest) (gather_none (λ number. each (count + number)) (more - count) (λ number below. none (count + number) (omega arith)))
      ∙ append-nil (gather each count)

  -- a fact on all elements
  pub all_gather : (P : X → Type 0) (each : ℕ → List X) (count : ℕ) → ((number : ℕ) → AllByRecursion P (each number)) → AllByRecursion P (gather each count)
  all_gather P each zero all = tt
  all_gather P each (suc count) all = all_append P (gather each count) (each count) (all_gather P each count all) (all count)

-- where each number gives one element, they are mapped
pub gathered_lines : {X : Type 0} (each : ℕ → List X) (line : ℕ → X) (count : ℕ) → ((number : ℕ) → each number ≡ line number ∷ [])
    → gather each count ≡ map line (range_with_len 0 count)
gathered_lines each line count is =
    gather_agree each (λ number. line number ∷ []) count (λ number below. is number)
    ∙ gather_range (λ number. line number ∷ []) count ∙ flat_map_single line (range_with_len 0 count)

module _ {A X : Type 0} where
  -- numbers as the numbers of elements
  pub gather_listed : (of_number : ℕ → List X) (each : ℕ → A → List X) (from : ℕ) (xs : List A)
      → ((place : ℕ) (x : A) → slice_get xs place ≡ Some x → of_number place ≡ each (from + place) x) → gather of_number (length xs) ≡ listed each from xs
  gather_listed of_number each from [] same = refl
  gather_listed of_number each from (x ∷ xs) same =
      let none : from + 0 ≡ from = omega arith in
      gather_front of_number (length xs)
      ∙ ap₂ (λ (first rest : List X). first ++ rest) (same 0 x refl ∙ ap (λ (number : ℕ). each number x) none)
      (gather_listed (λ number. of_number (suc number)) each (suc from) xs
      (λ place y is. let one : from + suc place ≡ suc from + place = omega arith in same (suc place) y is ∙ ap (λ (number : ℕ). each number y) one))

  -- the same, where each element stands in a list
  pub listed_within : (one other : ℕ → A → List X) (number : ℕ) (xs : List A)
      → ((place : ℕ) (x : A) → slice_get xs place ≡ Some x → (k : ℕ) → one k x ≡ other k x) → listed one number xs ≡ listed other number xs
  listed_within one other number [] same = refl
  listed_within one other number (x ∷ xs) same =
      ap₂ (λ (first rest : List X). first ++ rest) (same 0 x refl number) (listed_within one other (suc number) xs (λ place y is. same (suc place) y is))

  -- nothing
  pub nothing_listed : (each : ℕ → A → List X) (number : ℕ) (xs : List A)
      → ((place : ℕ) (x : A) → slice_get xs place ≡ Some x → (k : ℕ) → each k x ≡ []) → listed each number xs ≡ []
  nothing_listed each number [] none = refl
  nothing_listed each number (x ∷ xs) none =
      ap₂ (λ (first rest : List X). first ++ rest) (none 0 x refl number) (nothing_listed each (suc number) xs (λ place y is. none (suc place) y is))

  -- what one element gives, where no other gives anything
  pub listed_one : (each : ℕ → A → List X) (number : ℕ) (xs : List A) (place : ℕ) (x : A) → slice_get xs place ≡ Some x
      → ((other : ℕ) (y : A) → slice_get xs other ≡ Some y → ¬ (other ≡ place) → (k : ℕ) → each k y ≡ []) → listed each number xs ≡ each (number + place) x
  listed_one each number [] place x is none = absurd (none-some x is)
  listed_one each number (first ∷ xs) zero x is none =
      let own : number ≡ number + 0 = omega arith in
      ap (λ (rest : List X). each number first ++ rest) (nothing_listed each (suc number) xs (λ place y at. none (suc place) y at (λ same. omega (arith, same))))
      ∙ append-nil (each number first) ∙ ap₂ (λ (k : ℕ) (one : A). each k one) own (same_Some first x is)
  listed_one each number (first ∷ xs) (suc place) x is none =
      let own : suc number + place ≡ number + suc place = omega arith in
      ap (λ (front : List X). front ++ listed each (suc number) xs) (none 0 first refl (λ same. omega (arith, same)) number)
      ∙ listed_one each (suc number) xs place x is (λ other y at apart. none (suc other) y at (λ same. apart (omega (arith, same))))
      ∙ ap (λ (k : ℕ). each k x) own

module _ {X Y : Type 0} where
  -- of what passes a test
  pub flat_map_filter : (each : X → List Y) (test : X → Bool) (xs : List X) → flat_map each (filter test xs) ≡ flat_map (λ x. cond (test x) (each x) []) xs
  flat_map_filter each test [] = refl
  flat_map_filter each test (x ∷ xs) = by (test x) (flat_map_filter each test xs) where
    by : (passes : Bool) → flat_map each (filter test xs) ≡ flat_map (λ y. cond (test y) (each y) []) xs
        → flat_map each (cond passes (x ∷ filter test xs) (filter test xs)) ≡ cond passes (each x) [] ++ flat_map (λ y. cond (test y) (each y) []) xs
    by true rest = ap (λ (further : List Y). each x ++ further) rest
    by false rest = rest
