-- Places with something or nothing in them.
use Rattle.std.proofs.Common.{◌≡◌, ◌<◌, ◌∷◌, ◌⊎◌, ℕ, zero, suc, Bool, true, false, List, [], length, map, get_or, set, replicate, eqb, if◌then◌else◌, ap, refl, sym, subst, ◌∙◌, ⊎_elim, inl, inr, eq-eqb, eqb-true, Option, Some, None, arith}
use Rattle.std.proofs.Math.Path.{fun_ext}
use Rattle.std.proofs.lemmas.Bool.{cases_eq, eqb-false, ne_eqb}
use Rattle.std.specs.Option.{option_map}
use Rattle.std.proofs.Math.ListN.{get_or-map as get_or_map}
use Rattle.std.proofs.lemmas.List.{get_or-replicate, get_or-set_other, get_or-set_same, length-map, length-replicate, length-set}
use Rattle.std.proofs.lemmas.Option.{none-some}
use Rattle.vw_crew.specs.Groups.{placed}

-- a place with something in it is there
pub place_within : {A : Type 0} (places : List (Option A)) (place : ℕ) (one : A) → get_or places place None ≡ Some one → place < length places
place_within [] place one is = absurd (none-some one is)
place_within (first ∷ places) zero one is = omega arith
place_within (first ∷ places) (suc place) one is = omega (arith, place_within places place one is)

module _ {A : Type 0} (places : List (Option A)) (link : ℕ) (within : link < length places) (new : Option A) where
  -- what holds of what is put into a place, and of what was in the others, holds of all
  pub set_fine : (P : ℕ → A → Type 0) → ((one : A) → new ≡ Some one → P link one) → ((other : ℕ) (one : A) → get_or places other None ≡ Some one → P other one) → (other : ℕ) (one : A) → get_or (set places link new) other None ≡ Some one → P other one
  set_fine P fine before other one is =
      let if_same = λ (same : other ≡ link). subst (λ (place : ℕ). P place one) (sym same) (fine one (sym (get_or-set_same places link new None within) ∙ ap (λ (place : ℕ). get_or (set places link new) place None) (sym same) ∙ is)) in
      let if_other = λ (apart : other ≡ link → ⊥). before other one (sym (get_or-set_other places link other new None apart) ∙ is) in
      ⊎_elim if_same if_other (cases_eq other link)

  module _ (value : ℕ → Option A → ℕ) where
    -- values of the places, where the one at the link is another
    pub set_changes : (change : ℕ → ℕ) → value link new ≡ change (value link (get_or places link None))
        → ◌≡◌ {A = ℕ → ℕ} (λ other. value other (get_or (set places link new) other None)) (λ other. if eqb other link then change (value other (get_or places other None)) else value other (get_or places other None))
    set_changes change is = fun_ext (λ other. by other (eqb other link) refl) where
      by : (other : ℕ) (own : Bool) → eqb other link ≡ own → value other (get_or (set places link new) other None) ≡ (if own then change (value other (get_or places other None)) else value other (get_or places other None))
      by other true own =
          let same = eqb-true other link own in
          ap (λ (place : ℕ). value place (get_or (set places link new) place None)) same ∙ ap (value link) (get_or-set_same places link new None within) ∙ is ∙ ap (λ (place : ℕ). change (value place (get_or places place None))) (sym same)
      by other false apart = ap (value other) (get_or-set_other places link other new None (eqb-false other link apart))

  module _ {B : Type 0} (value : ℕ → Option A → B) where
    -- where it is the same
    pub set_stays : value link new ≡ value link (get_or places link None) → ◌≡◌ {A = ℕ → B} (λ other. value other (get_or (set places link new) other None)) (λ other. value other (get_or places other None))
    set_stays is = fun_ext (λ other. by other (cases_eq other link)) where
      by : (other : ℕ) → (other ≡ link) ⊎ (other ≡ link → ⊥) → value other (get_or (set places link new) other None) ≡ value other (get_or places other None)
      by other (inl same) = ap (λ (place : ℕ). value place (get_or (set places link new) place None)) same ∙ ap (value link) (get_or-set_same places link new None within) ∙ is ∙ ap (λ (place : ℕ). value place (get_or places place None)) (sym same)
      by other (inr apart) = ap (value other) (get_or-set_other places link other new None apart)

-- the place for another link stays, there are as many places, that of the link has what was put there, and another node has
-- the places that it had
module _ {A : Type 0} (link : ℕ) (new : Option A) (places : List (Option A)) where
  pub placed_other : (here : Bool) (other : ℕ) → (other ≡ link → ⊥) → get_or (placed here link new places) other None ≡ get_or places other None
  placed_other true other apart = get_or-set_other places link other new None apart
  placed_other false other apart = refl

  pub placed_long : (here : Bool) → length (placed here link new places) ≡ length places
  placed_long true = length-set places link new
  placed_long false = refl

  pub placed_here : (node : ℕ) → link < length places → get_or (placed (eqb node node) link new places) link None ≡ new
  placed_here node within = ap (λ (here : Bool). get_or (placed here link new places) link None) (eq-eqb node node refl) ∙ get_or-set_same places link new None within

  pub placed_apart : (other node : ℕ) → (other ≡ node → ⊥) → placed (eqb other node) link new places ≡ places
  placed_apart other node apart = ap (λ (here : Bool). placed here link new places) (ne_eqb other node apart)

abbrev nothing : {A : Type 0} → Option A
nothing = None

-- places in which nothing is, whatever is made of what is in them
pub none_mapped : {A B : Type 0} (make : A → B) (places : List (Option A)) (count : ℕ) → places ≡ replicate count None → (length (map (option_map make) places) ≡ count) × ((link : ℕ) → get_or (map (option_map make) places) link None ≡ None)
none_mapped {A = A} make places count are = (
  length-map places (option_map make) ∙ ap (λ (list : List (Option A)). length list) are ∙ length-replicate count (nothing {A = A}),
  λ link. get_or_map (option_map make) places link None ∙ ap (λ (list : List (Option A)). option_map make (get_or list link None)) are ∙ ap (option_map make) (none link (get_or (replicate count None) link None) refl),
) where
  none : (link : ℕ) (found : Option A) → get_or (replicate count None) link None ≡ found → get_or (replicate count (nothing {A = A})) link None ≡ None
  none link None is = is
  none link (Some one) is =
      let within = place_within (replicate count None) link one is in
      absurd (none-some one (sym (get_or-replicate count link None None (omega (arith, within, length-replicate count (nothing {A = A})))) ∙ is))
