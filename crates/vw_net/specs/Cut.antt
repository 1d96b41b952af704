-- One list that is cut into several.
use Rattle.std.specs.Prelude.{◌≡◌, ◌≤◌, ℕ, ◌-◌, List, [], ◌∷◌, take, drop}

-- the part of a list from one place to another
abbrev pub part : {A : Type 0} → ℕ → ℕ → List A → List A
part from to items = take (to - from) (drop from items)

-- the parts between one place and the next, from a place on
unfoldable pub cut : {A : Type 0} → ℕ → List ℕ → List A → List (List A)
cut from [] items = []
cut from (end ∷ ends) items = part from end items ∷ cut end ends items

-- places that only grow, from one to another
unfoldable pub AreEnds : ℕ → List ℕ → ℕ → Type 0
AreEnds from [] last = from ≡ last
AreEnds from (end ∷ ends) last = (from ≤ end) × AreEnds end ends last
