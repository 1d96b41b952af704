-- An item, the number of the model that it places, and the count at that number.
use Rattle.std.proofs.Common.{◌≡◌, ◌<◌, ◌≤◌, ◌+◌, ℕ, List, ◌∷◌, length, drop, get_or, Option, Some, None, slice_get, ⊎_elim, refl, sym, ◌∙◌, ap, subst, arith}
use Rattle.std.specs.List.{AllZip}
use Rattle.std.proofs.lemmas.Bool.{cases_lt}
use Rattle.std.proofs.lemmas.List.{drop_more, drop_all, get_or_past}
use Rattle.std.proofs.lemmas.Option.{none-some, get_or_from_slice_get}
use Rattle.vw_design.specs.declared.item.Item.{Item}
use Rattle.vw_design.specs.declared.item.Item.TheVariants.{Names, Latch, Sub}
use Rattle.vw_design.specs.declared.model.Model.{Model}
use Rattle.vw_design.specs.declared.design.Design.{Design}
use Rattle.vw_design.specs.Paths.{Word, placings}
use Rattle.vw_design.specs.Counts.{placed_one, placed_weight}
use Rattle.vw_design.specs.ModelFaults.{place_in_file}
use Rattle.vw_design.specs.ModelNumbers.{IsNumberOfModel, AreTargets}
use Rattle.vw_models.specs.Steps.Reach.{Targets}
use Rattle.vw_models.proofs.Unknowns.{AreAlong, none_along}
use Rattle.vw_design.proofs.ModelNumbers.{place_of_model, model_of_place, name_of_named}
use Rattle.vw_design.proofs.PairedLists.{AllZip-at}
use Rattle.vw_design.proofs.ListPlaces.{at_within}
use Rattle.vw_instances.specs.Steps.Counting.{target_in, count_at, count_in, IsWithinModels}

module _ (design : Design) (counts : List ℕ) (each : length counts ≡ length design.models) where
  -- the number of a name says what the name says
  within_of : (name : Word) (number : Option ℕ) → IsNumberOfModel design name number → IsWithinModels (length counts) number
  within_of name None is = tt
  within_of name (Some number) is = omega (arith, is.0, each)

  count_at_in : (name : Word) (number : Option ℕ) → IsNumberOfModel design name number → count_at counts number ≡ count_in design counts name
  count_at_in name None is = ⊎_elim
      (λ within. absurd (inside (at_within design.models (place_in_file design name) (omega (arith, within, each)))))
      (λ past. sym (get_or_past counts (place_in_file design name) 0 past))
      (cases_lt (place_in_file design name) (length counts))
    where
      inside : (model : Model) × (slice_get design.models (place_in_file design name) ≡ Some model) → ⊥
      inside model = none-some model.0 (sym is ∙ model_of_place design name ∙ model.1)
  count_at_in name (Some number) is =
      let model = at_within design.models number is.0 in
      let named : model.0.name ≡ name = name_of_named design name model.0 (sym is.1 ∙ model.1) in
      ap (λ (n : ℕ). get_or counts n 0) (sym (place_of_model design number model.0 model.1) ∙ ap (place_in_file design) named)

  -- an item's number, its count, and those of the other items
  pub record IsNextItem (items : List Item) (targets : List (Option ℕ)) (i place : ℕ) (item : Item) : Type 0 where
    pub inside : place + placed_one item ≤ length targets
    pub within : IsWithinModels (length counts) (target_in targets place item)
    pub below : count_at counts (target_in targets place item) ≡ placed_weight (count_in design counts) item
    pub rest : AreAlong design (drop (i + 1) items) (drop (place + placed_one item) targets)

  pub next : (items : List Item) (targets : List (Option ℕ)) (i place : ℕ) (item : Item) → i < length items → item ≡ get_or items i item → place ≤ length targets → AreAlong design (drop i items) (drop place targets) → IsNextItem items targets i place item
  next items targets i place item within at short along =
      by item (subst (λ (l : List Item). AreAlong design l (drop place targets)) (drop_more items i item within ∙ ap (λ (x : Item). x ∷ drop (i + 1) items) (sym at)) along) where
        stays : (x : ℕ) → x ≡ place → AreAlong design (drop (i + 1) items) (drop place targets) → AreAlong design (drop (i + 1) items) (drop x targets)
        stays x is there = subst (λ (n : ℕ). AreAlong design (drop (i + 1) items) (drop n targets)) (sym is) there

        by : (x : Item) → AreAlong design (x ∷ drop (i + 1) items) (drop place targets) → IsNextItem items targets i place x
        by (Names line ins out cover) there = record { inside = omega (arith, short); within = tt; below = refl; rest = stays (place + 0) (omega arith) there }
        by (Latch line d q edge control init) there = record { inside = omega (arith, short); within = tt; below = refl; rest = stays (place + 0) (omega arith) there }
        by (Sub line name binds) there = ⊎_elim
            (λ inside.
            let cut = subst (λ (l : List (Option ℕ)). AreAlong design (Sub line name binds ∷ drop (i + 1) items) l) (drop_more targets place None inside) there in
            record { inside = omega (arith, inside); within = within_of name (get_or targets place None) cut.0; below = count_at_in name (get_or targets place None) cut.0; rest = cut.1 })
            (λ past. absurd (none_along design line name binds (drop (i + 1) items) (subst (λ (l : List (Option ℕ)). AreAlong design (Sub line name binds ∷ drop (i + 1) items) l) (drop_all place targets past) there)))
            (cases_lt place (length targets))

pub along_at : (design : Design) (targets : Targets) (i : ℕ) (model : Model) → AreTargets design targets → slice_get design.models i ≡ Some model
    → (default list : List (Option ℕ)) → list ≡ get_or targets i default → (items : List Item) → items ≡ model.items → AreAlong design items list
along_at design targets i model are at default list is_list items are_items =
    let row = AllZip-at (λ model numbers. AllZip (λ placing number. IsNumberOfModel design placing.model number) (placings model.items) numbers) design.models targets i model are at in
    let same : list ≡ row.0 = is_list ∙ get_or_from_slice_get targets i row.0 default row.1 in
    subst (λ (l : List Item). AreAlong design l list) (sym are_items) (subst (λ (l : List (Option ℕ)). AreAlong design model.items l) (sym same) row.2)
