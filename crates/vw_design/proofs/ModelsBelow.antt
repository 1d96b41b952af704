-- The models of the instances that an instance places.
use Rattle.std.proofs.Common.{◌≡◌, ℕ, zero, suc, true, false, List, [], ◌∷◌, Some, None, slice_get, option_and_then, refl, sym, ◌∙◌, ap, true≢false}
use Rattle.std.specs.List.{list_all}
use Rattle.std.proofs.lemmas.Bool.{and_parts}
use Rattle.vw_design.specs.declared.item.Item.{Item}
use Rattle.vw_design.specs.declared.item.Item.TheVariants.{Names, Latch, Sub}
use Rattle.vw_design.specs.declared.model.Model.{Model}
use Rattle.vw_design.specs.declared.design.Design.{Design}
use Rattle.vw_design.specs.Paths.{Path, Placing, placings, placing_at, model_named, model_placed, model_at}
use Rattle.vw_design.specs.Preorder.{is_cell}
use Rattle.vw_design.proofs.ListedClaims.{IsLeaf}

-- at a place stands the model that the `.subckt` item there names
pub model_below : (design : Design) (path : Path) (model : Model) (before : ℕ) (placing : Placing) → model_at design path ≡ Some model
    → slice_get (placings model.items) before ≡ Some placing
    → model_at design (suc before ∷ path) ≡ model_named design.models placing.model
model_below design path model before placing stands at =
    ap (option_and_then (model_placed design (suc before))) stands ∙ ap (option_and_then (λ (p : Placing). model_named design.models p.model)) at

-- no items of a model that places none are `.subckt` items
pub leaf_placings : (items : List Item) → list_all is_cell items ≡ true → placings items ≡ []
leaf_placings [] all = refl
leaf_placings (Names line ins out cover ∷ items) all = leaf_placings items all
leaf_placings (Latch line d q edge control init ∷ items) all = leaf_placings items all
leaf_placings (Sub line model binds ∷ items) all = absurd (true≢false (sym (and_parts false (list_all is_cell items) all).0))

-- so nothing stands below such a model
pub none_below_leaf : (design : Design) (path : Path) (model : Model) → model_at design path ≡ Some model → IsLeaf model → (place : ℕ)
    → model_at design (place ∷ path) ≡ None
none_below_leaf design path model stands leaf zero = ap (option_and_then (model_placed design zero)) stands
none_below_leaf design path model stands leaf (suc before) =
    ap (option_and_then (model_placed design (suc before))) stands
    ∙ ap (λ (ps : List Placing). option_and_then (λ (p : Placing). model_named design.models p.model) (slice_get ps before)) (leaf_placings model.items leaf)

-- nor below what is no instance
pub none_below : (design : Design) (path : Path) (place : ℕ) → model_at design path ≡ None → model_at design (place ∷ path) ≡ None
none_below design path place none = ap (option_and_then (model_placed design place)) none

-- or at a place where nothing is placed
pub none_at_place : (design : Design) (path : Path) (model : Model) (place : ℕ) → model_at design path ≡ Some model
    → placing_at model.items place ≡ None → model_at design (place ∷ path) ≡ None
none_at_place design path model place stands none =
    ap (option_and_then (model_placed design place)) stands ∙ ap (option_and_then (λ (p : Placing). model_named design.models p.model)) none
