-- What stands before a `\` at the end.
use Rattle.std.proofs.Common.{◌≡◌, ◌≢◌, ℕ, List, [], ◌∷◌, ◌++◌, Option, Some, None, option_map, MatchOption, Bor, refl, sym, ap}
use Rattle.std.proofs.lemmas.Bool.{ne_eqb}
use Rattle.vw_text.specs.Logical.{before_backslash}

pub backslash_taken : (front : List ℕ) → before_backslash (front ++ 92 ∷ []) ≡ Some front
backslash_taken [] = refl
backslash_taken (b ∷ []) = refl
backslash_taken (b ∷ c ∷ bs) = ap (option_map (λ front. b ∷ front)) (backslash_taken (c ∷ bs))

pub no_backslash : (line : List ℕ) → ((front : List ℕ) → line ≢ front ++ 92 ∷ []) → before_backslash line ≡ None
no_backslash [] none = refl
no_backslash (b ∷ []) none = rw (ne_eqb b 92 (λ is. none [] (ap (λ n. n ∷ []) is))) refl
no_backslash (b ∷ c ∷ bs) none =
    ap (option_map (λ front. b ∷ front)) (no_backslash (c ∷ bs) (λ front is. none (b ∷ front) (ap (λ rest. b ∷ rest) is)))

-- what was stripped off a line
pub stripped_is : (line : List ℕ) (result : Option (Bor (List ℕ)))
    → MatchOption result ((front : List ℕ) → line ≢ front ++ 92 ∷ []) (λ front. line ≡ front.now ++ 92 ∷ [])
    → option_map (λ front. front.now) result ≡ before_backslash line
stripped_is line None none = sym (no_backslash line none)
stripped_is line (Some front) is = sym (rw is (backslash_taken front.now))
