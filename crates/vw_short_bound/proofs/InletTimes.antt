-- The times of inlets, and the class at a place.
use Rattle.std.proofs.Common.{◌≡◌, ◌<◌, ℕ, List, length, map, get_or, slice_index, ap, sym, subst, ◌∙◌, All}
use Rattle.std.proofs.lemmas.List.{get_or-map, length-map}
use Rattle.vw_bound.specs.PlacedDesigns.{PlacedDesign}
use Rattle.vw_bound.specs.Times.{there_by}
use Rattle.vw_short_bound.specs.declared.inlets.Class.{Class}
use Rattle.vw_short_bound.specs.Steps.Inlets.{IsClassOf}

module _ (placed : PlacedDesign) (soon_of : ℕ → ℕ) (node : ℕ) (nets lent times : List ℕ) (are : times ≡ map (λ net. there_by placed soon_of net node) lent) (same : lent ≡ nets) where
  pub times_long : length times ≡ length nets
  times_long = ap length are ∙ length-map lent (λ net. there_by placed soon_of net node) ∙ ap length same

  pub times_at : (place : ℕ) → place < length nets → slice_index times place ≡ there_by placed soon_of (slice_index nets place) node
  times_at place within =
      ap (λ (list : List ℕ). slice_index list place) (are ∙ ap (map (λ net. there_by placed soon_of net node)) same)
      ∙ get_or-map (λ net. there_by placed soon_of net node) nets place 0 0 within

-- a class of a list
pub class_at : (placed : PlacedDesign) (node : ℕ) (nets : List ℕ) (classes lent : List Class) (place : ℕ) (class : Class) → All (IsClassOf placed node nets) classes → lent ≡ classes
    → place < length lent → class ≡ get_or lent place class → IsClassOf placed node nets class
class_at placed node nets classes lent place class all same within is =
    subst (IsClassOf placed node nets) (sym is) (subst (All (IsClassOf placed node nets)) (sym same) all place class within)
