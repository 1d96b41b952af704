-- Lists that are gathered from numbers, and from numbered elements.
use Rattle.std.specs.Prelude.{ℕ, zero, suc, List, [], ◌∷◌, ◌++◌}

-- what each number below a bound gives, in their order
abbrev pub gather : {X : Type 0} → (ℕ → List X) → ℕ → List X
gather each zero = []
gather each (suc count) = gather each count ++ each count

-- what each element gives with its number, where the elements are numbered from this number on
abbrev pub listed : {A X : Type 0} → (ℕ → A → List X) → ℕ → List A → List X
listed each number [] = []
listed each number (x ∷ xs) = each number x ++ listed each (suc number) xs
