-- Words that begin with a place: in one way at most.
use Rattle.std.proofs.Common.{◌≡◌, ◌<◌, ◌≤◌, ◌+◌, ◌-◌, ◌==◌, ◌^◌, ℕ, true, false, List, [], ◌∷◌, ◌++◌, length, take, drop, slice_index, sym, ◌∙◌, ap, subst, true≢false, Some, None, All, arith}
use Rattle.std.specs.Fmt.{decimal}
use Rattle.std.proofs.lemmas.Fmt.{decimal_injective}
use Rattle.std.proofs.lemmas.List.Elements.{All-head, All-tail}
use Rattle.std.proofs.lemmas.Option.{none-some, same_Some}
use Rattle.vw_text.specs.Number.{spelled_number}
use Rattle.vw_text.proofs.CutAtByte.{cut_once, cut_whole, front_without, none_at}
use Rattle.vw_text.proofs.DecimalDigits.{decimal_without}
use Rattle.vw_text.proofs.Decimals.{number_of-decimal, decimal-number_of}
use Rattle.vw_flat.specs.Steps.Searches.{BeginsWithPlace, BeginsWithNone}

-- no byte is `/`
abbrev pub HasNoSlash : List ℕ → Type 0
HasNoSlash bytes = All (λ b. (b == 47) ≡ false) bytes

-- a word begins with one place
pub one_place : (place other : ℕ) (rest more : List ℕ) → place < 2 ^ 64 → other < 2 ^ 64
    → decimal place ++ 47 ∷ rest ≡ decimal other ++ 47 ∷ more → (place ≡ other) × (rest ≡ more)
one_place place other rest more small fits same =
    let cut = cut_once 47 (decimal place) (decimal other) rest more (decimal_without 47 (omega arith) place) (decimal_without 47 (omega arith) other) same in
    (decimal_injective place other small fits cut.0, cut.1)

-- a text cut at its first `/`
module _ (text : List ℕ) (end : ℕ) (within : end < length text) (before : (k : ℕ) → 0 ≤ k → k < end → (slice_index text k == 47) ≡ true → ⊥) (ends : (slice_index text end == 47) ≡ true) where
  -- the front is the place, where the text begins with one
  front_is : (place : ℕ) (rest : List ℕ) → BeginsWithPlace text place rest → spelled_number (take end text) ≡ Some place
  front_is place rest begins =
      let small : place < 2 ^ 64 = omega (arith, begins.fits) in
      let cut = cut_once 47 (take end text) (decimal place) (take (length text - (end + 1)) (drop (end + 1) text)) rest (front_without 47 text end within before ends) (decimal_without 47 (omega arith) place) (sym (cut_whole 47 text end within before ends) ∙ begins.split) in
      ap spelled_number cut.0 ∙ number_of-decimal place small

  pub front_no_number : spelled_number (take end text) ≡ None → BeginsWithNone text
  front_no_number none = λ place rest begins. none-some place (sym none ∙ front_is place rest begins)

  pub front_large : (number : ℕ) → spelled_number (take end text) ≡ Some number → 2 ^ 32 ≤ number → BeginsWithNone text
  front_large number is large = λ place rest begins.
      let same = same_Some number place (sym is ∙ front_is place rest begins) in
      omega (arith, begins.fits, same, large)

  pub front_place : (number : ℕ) → spelled_number (take end text) ≡ Some number → number < 2 ^ 32
      → BeginsWithPlace text number (take (length text - (end + 1)) (drop (end + 1) text))
  front_place number is small = record {
    split = cut_whole 47 text end within before ends ∙ ap (λ (front : List ℕ). front ++ 47 ∷ take (length text - (end + 1)) (drop (end + 1) text)) (decimal-number_of (take end text) number is).is;
    fits = small;
  }

-- a text without one
with_slash : (a s : List ℕ) → HasNoSlash (a ++ 47 ∷ s) → ⊥
with_slash [] s plain = true≢false (All-head (λ (c : ℕ). (c == 47) ≡ false) 47 s plain)
with_slash (x ∷ a) s plain = with_slash a s (All-tail (λ (c : ℕ). (c == 47) ≡ false) x (a ++ 47 ∷ s) plain)

pub cut_none : (text : List ℕ) → ((k : ℕ) → 0 ≤ k → k < length text → (slice_index text k == 47) ≡ true → ⊥) → BeginsWithNone text
cut_none text none = λ place rest begins. with_slash (decimal place) rest (subst HasNoSlash begins.split (none_at 47 text none))
