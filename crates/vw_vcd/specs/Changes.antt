-- Which signals differ from one clock to the next.
use Rattle.std.specs.Prelude.{ℕ, ◌+◌, Bool, true, false, not, List, [], ◌∷◌, Option, Some, if◌then◌else◌}

-- whether two values are different ones
abbrev pub differs : Bool → Bool → Bool
differs true bit = not bit
differs false bit = bit

-- what each signal's value gives; the first signal has this number
abbrev pub of_each : {X : Type 0} → (ℕ → Bool → X) → ℕ → List Bool → List X
of_each each number [] = []
of_each each number (bit ∷ bits) = each number bit ∷ of_each each (number + 1) bits

-- the same of those signals alone whose value differs from the one before
abbrev pub of_changed : {X : Type 0} → (ℕ → Bool → X) → ℕ → List Bool → List Bool → List X
of_changed each number [] bits = []
of_changed each number (old ∷ before) [] = []
of_changed each number (old ∷ before) (bit ∷ bits) =
    if differs old bit then each number bit ∷ of_changed each (number + 1) before bits else of_changed each (number + 1) before bits

-- whether there is something in a list
abbrev pub has_any : {X : Type 0} → List X → Bool
has_any [] = false
has_any (x ∷ xs) = true

-- some things under a first one, and nothing where there are none
abbrev pub under : {X : Type 0} → X → List X → List X
under first xs = if has_any xs then first ∷ xs else []

-- the last of some rows; what was before them where there is none
abbrev pub last_row : Option (List Bool) → List (List Bool) → Option (List Bool)
last_row before [] = before
last_row before (bits ∷ rows) = last_row (Some bits) rows
