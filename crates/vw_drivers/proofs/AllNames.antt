-- The names of one model more.
use Rattle.std.proofs.Common.{◌≡◌, ◌<◌, ◌+◌, ℕ, List, [], ◌∷◌, ◌++◌, length, map, slice_get, Option, Some, option_map, ⊎_elim, sym, ◌∙◌, ap, subst, arith}
use Rattle.std.specs.List.{AllZip}
use Rattle.std.specs.Option.{unwrap_or}
use Rattle.std.proofs.lemmas.Bool.{cases_lt}
use Rattle.std.proofs.lemmas.Option.{same_Some}
use Rattle.vw_design.specs.declared.model.Model.{Model}
use Rattle.vw_design.specs.declared.design.Design.{Design}
use Rattle.vw_design.specs.Paths.{placings}
use Rattle.vw_design.specs.ModelNumbers.{IsNumberOfModel, AreTargets}
use Rattle.vw_design.proofs.ListPlaces.{in_front, at_end}
use Rattle.vw_design.proofs.PairedLists.{AllZip-at, AllZip-length}
use Rattle.vw_drivers.specs.declared.model_claims.ModelClaims.{ModelClaims}
use Rattle.vw_drivers.specs.Firsts.{First, number_named}
use Rattle.vw_drivers.specs.declared.model_names.PlacedNames.{PlacedNames}
use Rattle.vw_drivers.specs.declared.model_names.ModelNames.{ModelNames}
use Rattle.vw_drivers.specs.Names.{reads_of, firsts_of, AreModelNames}
use Rattle.vw_drivers.specs.Steps.GatheredNames.{placed_from}
use Rattle.vw_drivers.proofs.PlacedItems.{placed_count, placed_names}

-- the models below a number have their names
abbrev pub AreNamesBelow : Design → List ModelClaims → ℕ → List ModelNames → Type 0
AreNamesBelow design claims below names = (k : ℕ) (model : Model) → k < below → slice_get design.models k ≡ Some model
    → (found : ModelNames) × (slice_get names k ≡ Some found) × AreModelNames design claims (firsts_of claims (Some k)) model.items found

module _ (design : Design) (targets : List (List (Option ℕ))) (are : AreTargets design targets) (claims : List ModelClaims) (long : length claims ≡ length design.models) where
  pub row_within : (i : ℕ) → i < length design.models → i < length targets
  row_within i within = omega (arith, within, AllZip-length (λ model numbers. AllZip (λ placing number. IsNumberOfModel design placing.model number) (placings model.items) numbers) design.models targets are)

  model_is : (i : ℕ) (model : Model) (own : ModelClaims) (row : List (Option ℕ)) (names : ModelNames)
      → slice_get design.models i ≡ Some model → slice_get claims i ≡ Some own → slice_get targets i ≡ Some row
      → names.reads ≡ map (λ item. map (number_named own.firsts) (reads_of item)) model.items → names.placed ≡ placed_from own.firsts claims row 0 0 model.items
      → AreModelNames design claims (firsts_of claims (Some i)) model.items names
  model_is i model own row names at_model at_own at_row reads placed =
      let firsts : own.firsts ≡ firsts_of claims (Some i) = ap (λ (found : Option ModelClaims). unwrap_or (option_map (λ (f : ModelClaims). f.firsts) found) []) (sym at_own) in
      let along = AllZip-at (λ model numbers. AllZip (λ placing number. IsNumberOfModel design placing.model number) (placings model.items) numbers) design.models targets i model are at_model in
      let same : along.0 ≡ row = same_Some along.0 row (sym along.1 ∙ at_row) in
      let targets_are = subst (λ (numbers : List (Option ℕ)). AllZip (λ placing number. IsNumberOfModel design placing.model number) (placings model.items) numbers) same along.2 in
      subst (λ (own : List First). AreModelNames design claims own model.items names) firsts (record {
        reads = reads;
        count = ap (λ (list : List PlacedNames). length list) placed ∙ placed_count own.firsts claims row 0 0 model.items;
        placed = λ before placing at.
            let entry = placed_names design claims long own.firsts model.items row targets_are before placing at in
            (entry.0, ap (λ (list : List PlacedNames). slice_get list before) placed ∙ entry.1, entry.2);
      })

  pub names_more : (i : ℕ) (model : Model) (own : ModelClaims) (row : List (Option ℕ)) (names : ModelNames) (list more : List ModelNames)
      → slice_get design.models i ≡ Some model → slice_get claims i ≡ Some own → slice_get targets i ≡ Some row
      → names.reads ≡ map (λ item. map (number_named own.firsts) (reads_of item)) model.items → names.placed ≡ placed_from own.firsts claims row 0 0 model.items
      → length list ≡ i → AreNamesBelow design claims i list → more ≡ list ++ names ∷ [] → AreNamesBelow design claims (i + 1) more
  names_more i model own row names list more at_model at_own at_row reads placed list_long before more_is = λ k m below at.
      ⊎_elim (λ less. is_before k m less at) (λ least. is_last k m (omega (arith, below, least)) at) (cases_lt k i)
    where
      is_before : (k : ℕ) (m : Model) → k < i → slice_get design.models k ≡ Some m → (found : ModelNames) × (slice_get more k ≡ Some found) × AreModelNames design claims (firsts_of claims (Some k)) m.items found
      is_before k m less at =
          let found = before k m less at in
          (found.0, ap (λ (l : List ModelNames). slice_get l k) more_is ∙ in_front list (names ∷ []) k found.0 found.1, found.2)

      is_last : (k : ℕ) (m : Model) → i ≡ k → slice_get design.models k ≡ Some m → (found : ModelNames) × (slice_get more k ≡ Some found) × AreModelNames design claims (firsts_of claims (Some k)) m.items found
      is_last k m here at =
          let same : model ≡ m = same_Some model m (sym at_model ∙ ap (slice_get design.models) here ∙ at) in
          let is : AreModelNames design claims (firsts_of claims (Some k)) m.items names =
          subst (λ (n : ℕ). AreModelNames design claims (firsts_of claims (Some n)) m.items names) here
          (subst (λ (other : Model). AreModelNames design claims (firsts_of claims (Some i)) other.items names) same (model_is i model own row names at_model at_own at_row reads placed)) in
          (names, ap (λ (l : List ModelNames). slice_get l k) more_is ∙ at_end list names k (list_long ∙ here), is)
