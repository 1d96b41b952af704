-- Lists cut before each element that begins something.
use Rattle.std.specs.Prelude.{Bool, true, false, List, [], ◌∷◌, if◌then◌else◌}

-- an element that begins a part, and those behind it
pub record Part (A : Type 0) : Type 0 where
  pub head : A
  pub tail : List A

-- what stands before the first part, and the parts
pub record CutList (A : Type 0) : Type 0 where
  pub before : List A
  pub parts : List (Part A)

-- an element before a list that was cut; it begins a part, or not
abbrev pub with_element : {A : Type 0} → Bool → A → CutList A → CutList A
with_element true x cut = record { before = []; parts = record { head = x; tail = cut.before } ∷ cut.parts }
with_element false x cut = record { before = x ∷ cut.before; parts = cut.parts }

-- a list, cut before each element with which a part begins
abbrev pub cut_before : {A : Type 0} → (A → Bool) → List A → CutList A
cut_before begins [] = record { before = []; parts = [] }
cut_before begins (x ∷ xs) = with_element (begins x) x (cut_before begins xs)

-- the elements before the first that ends the list
abbrev pub until : {A : Type 0} → (A → Bool) → List A → List A
until ends [] = []
until ends (x ∷ xs) = if ends x then [] else x ∷ until ends xs
