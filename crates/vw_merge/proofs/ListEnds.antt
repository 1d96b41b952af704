-- Elements of lists that are put behind each other, and of lists in which one is written.
use Rattle.std.proofs.Common.{◌≡◌, ◌<◌, ◌+◌, ◌++◌, ◌∙◌, ℕ, zero, suc, List, [], ◌∷◌, length, set, slice_get, Some, All, ap, sym, refl, subst, arith}
use Rattle.std.proofs.lemmas.Grind.{get_or-set_at}
use Rattle.std.proofs.lemmas.List.{get_or-set_other, length-set}
use Rattle.std.proofs.lemmas.List.Elements.{All-append, All-cons, All-nil}
use Rattle.std.proofs.lemmas.Option.{none-some, slice_get-get_or, slice_get_within, get_or_from_slice_get}

pub front_there : {X : Type 0} (xs ys : List X) (i : ℕ) (x : X) → slice_get xs i ≡ Some x → slice_get (xs ++ ys) i ≡ Some x
front_there [] ys i x is = absurd (none-some x is)
front_there (y ∷ xs) ys zero x is = is
front_there (y ∷ xs) ys (suc i) x is = front_there xs ys i x is

pub back_there : {X : Type 0} (xs ys : List X) (i at : ℕ) → at ≡ length xs + i → slice_get (xs ++ ys) at ≡ slice_get ys i
back_there [] ys i at is = ap (slice_get ys) (omega (arith, is))
back_there (x ∷ xs) ys i zero is = absurd (omega (arith, is))
back_there (x ∷ xs) ys i (suc at) is = back_there xs ys i at (omega (arith, is))

pub last_there : {X : Type 0} (xs : List X) (y : X) → slice_get (xs ++ y ∷ []) (length xs) ≡ Some y
last_there [] y = refl
last_there (x ∷ xs) y = last_there xs y

-- what holds of all, and of one more
pub all_more : {X : Type 0} (P : X → Type 0) (xs more : List X) (x : X) → All P xs → P x → more ≡ xs ++ x ∷ [] → All P more
all_more P xs more x all here is = subst (All P) (sym is) (All-append P xs (x ∷ []) all (All-cons P x [] here (All-nil P)))

-- an element that is written, and another one
pub written_there : {X : Type 0} (xs : List X) (at i : ℕ) (y x : X) → i ≡ at → slice_get (set xs at y) i ≡ Some x → y ≡ x
written_there xs at i y x same is =
    let within : i < length xs = omega (arith, slice_get_within (set xs at y) i x is, length-set xs at y) in
    sym (get_or-set_at xs at i y x same (omega (arith, within, same))) ∙ get_or_from_slice_get (set xs at y) i x x is

pub other_there : {X : Type 0} (xs : List X) (at i : ℕ) (y x : X) → (i ≡ at → ⊥) → slice_get (set xs at y) i ≡ Some x → slice_get xs i ≡ Some x
other_there xs at i y x other is =
    let within : i < length xs = omega (arith, slice_get_within (set xs at y) i x is, length-set xs at y) in
    slice_get-get_or xs i x within ∙ ap Some (sym (get_or-set_other xs at i y x other) ∙ get_or_from_slice_get (set xs at y) i x x is)
