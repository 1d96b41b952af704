-- A list that is gathered from the elements of another, one after the other.
use Rattle.std.proofs.Common.{◌≡◌, ◌<◌, ◌+◌, ◌++◌, ◌∙◌, ℕ, List, [], ◌∷◌, length, map, drop, get_or, ap, sym, append_assoc}
use Rattle.std.proofs.lemmas.List.{drop_more}

module _ {A X : Type 0} (gather : ℕ → List A → List X) (items : List A) (i : ℕ) (item : A) (found all : List X)
    (within : i < length items) (is : item ≡ get_or items i item) (old : found ++ gather i (drop i items) ≡ all) where
  left : gather i (drop i items) ≡ gather i (item ∷ drop (i + 1) items)
  left = ap (gather i) (drop_more items i item within ∙ ap (λ (first : A). first ∷ drop (i + 1) items) (sym is))

  -- an element that gives one
  pub one_gathered : (new : List X) (x : X) → gather i (item ∷ drop (i + 1) items) ≡ x ∷ gather (i + 1) (drop (i + 1) items) → new ≡ found ++ x ∷ [] → new ++ gather (i + 1) (drop (i + 1) items) ≡ all
  one_gathered new x gives more =
      let further = gather (i + 1) (drop (i + 1) items) in
      ap (λ (xs : List X). xs ++ further) more ∙ append_assoc found (x ∷ []) further ∙ ap (λ (xs : List X). found ++ xs) (sym (left ∙ gives)) ∙ old

  -- an element that gives none
  pub none_gathered : (new : List X) → gather i (item ∷ drop (i + 1) items) ≡ gather (i + 1) (drop (i + 1) items) → new ≡ found → new ++ gather (i + 1) (drop (i + 1) items) ≡ all
  none_gathered new gives same =
      ap (λ (xs : List X). xs ++ gather (i + 1) (drop (i + 1) items)) same ∙ ap (λ (xs : List X). found ++ xs) (sym (left ∙ gives)) ∙ old

-- an element of a list that is mapped
pub mapped_more : {X Y : Type 0} (f : X → Y) (xs : List X) (place : ℕ) (default : X) (made more whole : List Y) (y : Y) → place < length xs → y ≡ f (get_or xs place default)
    → more ≡ made ++ y ∷ [] → made ++ map f (drop place xs) ≡ whole → more ++ map f (drop (place + 1) xs) ≡ whole
mapped_more f xs place default made more whole y within value is so_far =
    let rest = map f (drop (place + 1) xs) in
    ap (λ (front : List _). front ++ rest) is
    ∙ append_assoc made (y ∷ []) rest
    ∙ ap (λ (one : _). made ++ one ∷ rest) value
    ∙ ap (λ (left : List _). made ++ map f left) (sym (drop_more xs place default within))
    ∙ so_far
