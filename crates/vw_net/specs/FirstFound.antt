-- The first of what is found along a list.
use Rattle.std.specs.Prelude.{ℕ, zero, suc, Bool, List, [], ◌∷◌, Option, Some, None, option_map, if◌then◌else◌}
use Rattle.std.specs.Option.{option_or}

-- what is found at the first element where something is found
abbrev pub first_found : {A B : Type 0} → (A → Option B) → List A → Option B
first_found search [] = None
first_found search (x ∷ xs) = option_or (search x) (first_found search xs)

-- the same, where the elements are numbered from this number on
abbrev pub first_at : {A B : Type 0} → (ℕ → A → Option B) → ℕ → List A → Option B
first_at search number [] = None
first_at search number (x ∷ xs) = option_or (search number x) (first_at search (suc number) xs)

-- the first thing that is found at all
abbrev pub first_some : {A : Type 0} → List (Option A) → Option A
first_some [] = None
first_some (found ∷ others) = option_or found (first_some others)

-- the place, from 0, of the first element that passes a test
abbrev pub first_place : {A : Type 0} → (A → Bool) → List A → Option ℕ
first_place test [] = None
first_place test (x ∷ xs) = if test x then Some zero else option_map (λ place. suc place) (first_place test xs)

-- a thing, where a test gives true
abbrev pub found_if : {A : Type 0} → Bool → A → Option A
found_if test thing = if test then Some thing else None

-- a thing, where a test gives false
abbrev pub found_unless : {A : Type 0} → Bool → A → Option A
found_unless test thing = if test then None else Some thing
