-- NumberedPlacings that are added item by item.
use Rattle.std.proofs.Common.{◌≡◌, ◌<◌, ◌+◌, ℕ, List, [], ◌∷◌, ◌++◌, drop, length, get_or, Option, Some, None, slice_get, filter_map, option_map, ⊎_elim, refl, sym, ◌∙◌, ap, subst, append_assoc, append-nil}
use Rattle.std.specs.List.{AllZip, cons_option}
use Rattle.std.proofs.lemmas.Bool.{cases_lt}
use Rattle.std.proofs.lemmas.List.{drop_more, drop_all}
use Rattle.vw_design.specs.declared.item.Bind.{Bind}
use Rattle.vw_design.specs.declared.item.Item.{Item}
use Rattle.vw_design.specs.declared.item.Item.TheVariants.{Names, Latch, Sub}
use Rattle.vw_design.specs.declared.model.Model.{Model}
use Rattle.vw_design.specs.declared.design.Design.{Design}
use Rattle.vw_design.specs.Paths.{Word, placings, model_named}
use Rattle.vw_design.specs.ModelNumbers.{IsNumberOfModel}
use Rattle.vw_design.proofs.PairedLists.{AllZip-append}
use Rattle.vw_design.proofs.ListPlaces.{at_within}
use Rattle.vw_models.proofs.Unknowns.{AreAlong, none_along}
use Rattle.vw_models.specs.declared.numbered_placing.NumberedPlacing.{NumberedPlacing}
use Rattle.vw_models.specs.Steps.PlacedModels.{PlacedModel, placed_by, IsNumberedPlacing, AreAdded}

-- those of some placed models were added, and some are left
pub record IsAdding (design : Design) (start : List NumberedPlacing) (left todo : List PlacedModel) (now : List NumberedPlacing) : Type 0 where
  pub done : List PlacedModel
  pub all : done ++ left ≡ todo
  pub entries : AreAdded design start done now

module _ (design : Design) (start : List NumberedPlacing) where
  pub begun : (todo : List PlacedModel) → IsAdding design start todo todo start
  begun todo = record {
    done = [];
    all = refl;
    entries = λ before along. subst (λ (l : List PlacedModel). AllZip (IsNumberedPlacing design) l start) (sym (append-nil before)) along;
  }

  pub ended : (todo : List PlacedModel) (now : List NumberedPlacing) → IsAdding design start [] todo now → AreAdded design start todo now
  ended todo now adding = subst (λ (l : List PlacedModel). AreAdded design start l now) (sym (append-nil adding.done) ∙ adding.all) adding.entries

  -- more are added
  pub more_added : (added left todo : List PlacedModel) (old new : List NumberedPlacing) → IsAdding design start (added ++ left) todo old → AreAdded design old added new → IsAdding design start left todo new
  more_added added left todo old new adding adds = record {
    done = adding.done ++ added;
    all = append_assoc adding.done added left ∙ adding.all;
    entries = λ before along.
        subst (λ (l : List PlacedModel). AllZip (IsNumberedPlacing design) l new) (append_assoc before adding.done added) (adds (before ++ adding.done) (adding.entries before along));
  }

  pub one_added : (placed : PlacedModel) (left todo : List PlacedModel) (old : List NumberedPlacing) (numbered : NumberedPlacing) → IsAdding design start (placed ∷ left) todo old → IsNumberedPlacing design placed numbered
      → IsAdding design start left todo (old ++ numbered ∷ [])
  one_added placed left todo old numbered adding is =
      more_added (placed ∷ []) left todo old (old ++ numbered ∷ []) adding
      (λ before along. AllZip-append (IsNumberedPlacing design) before (placed ∷ []) old (numbered ∷ []) along (is, tt))

-- an item and the number at its place
module _ (design : Design) (items : List Item) (numbers : List (Option ℕ)) (i place : ℕ) (item : Item) (within : i < length items) (at : item ≡ get_or items i item) where
  pub record IsPairedItem (name : Word) : Type 0 where
    pub inside : place < length numbers
    pub here : IsNumberOfModel design name (get_or numbers place None)
    pub rest : AreAlong design (drop (i + 1) items) (drop (place + 1) numbers)

  pub cut : drop i items ≡ item ∷ drop (i + 1) items
  cut = drop_more items i item within ∙ ap (λ (x : Item). x ∷ drop (i + 1) items) (sym at)

  pub sub_cut : (line : ℕ) (name : Word) (binds : List Bind) → item ≡ Sub line name binds → AreAlong design (drop i items) (drop place numbers) → IsPairedItem name
  sub_cut line name binds is along =
      let there = subst (λ (l : List Item). AreAlong design l (drop place numbers)) (cut ∙ ap (λ (x : Item). x ∷ drop (i + 1) items) is) along in
      ⊎_elim
      (λ inside.
      let both = subst (λ (l : List (Option ℕ)). AreAlong design (Sub line name binds ∷ drop (i + 1) items) l) (drop_more numbers place None inside) there in
      record { inside = inside; here = both.0; rest = both.1 })
      (λ past. absurd (none_along design line name binds (drop (i + 1) items) (subst (λ (l : List (Option ℕ)). AreAlong design (Sub line name binds ∷ drop (i + 1) items) l) (drop_all place numbers past) there)))
      (cases_lt place (length numbers))

  -- an item that places nothing
  pub no_sub : ((line : ℕ) (name : Word) (binds : List Bind) → item ≡ Sub line name binds → ⊥)
      → (placings (drop i items) ≡ placings (drop (i + 1) items)) × (filter_map (placed_by design) (drop i items) ≡ filter_map (placed_by design) (drop (i + 1) items))
  no_sub other = let both = by item other in (ap placings cut ∙ both.0, ap (filter_map (placed_by design)) cut ∙ both.1) where
    by : (x : Item) → ((line : ℕ) (name : Word) (binds : List Bind) → x ≡ Sub line name binds → ⊥)
        → (placings (x ∷ drop (i + 1) items) ≡ placings (drop (i + 1) items)) × (filter_map (placed_by design) (x ∷ drop (i + 1) items) ≡ filter_map (placed_by design) (drop (i + 1) items))
    by (Names line ins out cover) other = (refl, refl)
    by (Latch line d q edge control init) other = (refl, refl)
    by (Sub line model binds) other = absurd (other line model binds refl)

  -- an item without a model, and one with it
  placed_here : (line : ℕ) (name : Word) (binds : List Bind) → item ≡ Sub line name binds → (found : Option Model) → model_named design.models name ≡ found
      → filter_map (placed_by design) (drop i items)
      ≡ cons_option (option_map (λ (model : Model). record { line = line; model = model; binds = binds }) found) (filter_map (placed_by design) (drop (i + 1) items))
  placed_here line name binds is found named =
      ap (filter_map (placed_by design)) (cut ∙ ap (λ (x : Item). x ∷ drop (i + 1) items) is)
      ∙ ap (λ (m : Option Model). cons_option (option_map (λ (model : Model). record { line = line; model = model; binds = binds }) m) (filter_map (placed_by design) (drop (i + 1) items))) named

  pub passed_over : (line : ℕ) (name : Word) (binds : List Bind) → item ≡ Sub line name binds → IsNumberOfModel design name None
      → filter_map (placed_by design) (drop i items) ≡ filter_map (placed_by design) (drop (i + 1) items)
  passed_over line name binds is none = placed_here line name binds is None none

  pub placed_now : (line : ℕ) (name : Word) (binds : List Bind) → item ≡ Sub line name binds → (number : ℕ) → IsNumberOfModel design name (Some number) → (start : List NumberedPlacing) (todo : List PlacedModel) (old : List NumberedPlacing)
      → IsAdding design start (filter_map (placed_by design) (drop i items)) todo old → (numbered : NumberedPlacing) → numbered.line ≡ line → numbered.number ≡ number → numbered.binds.now ≡ binds
      → IsAdding design start (filter_map (placed_by design) (drop (i + 1) items)) todo (old ++ numbered ∷ [])
  placed_now line name binds is number found start todo old adding numbered same_line same_number same_binds =
      let model = at_within design.models number found.0 in
      let here = placed_here line name binds is (Some model.0) (sym found.1 ∙ model.1) in
      one_added design start (record { line = line; model = model.0; binds = binds }) (filter_map (placed_by design) (drop (i + 1) items)) todo old numbered
      (subst (λ (l : List PlacedModel). IsAdding design start l todo old) here adding)
      (record { line = same_line; model = ap (slice_get design.models) same_number ∙ model.1; binds = same_binds })
