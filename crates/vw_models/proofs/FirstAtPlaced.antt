-- What a search finds first at the placed models.
use Rattle.std.proofs.Common.{◌≡◌, ◌<◌, ℕ, List, [], ◌∷◌, length, get_or, Option, Some, None, slice_get, find, flat_map, filter_map, option_map, option_and_then, refl, sym, ◌∙◌, ap, ap₂}
use Rattle.std.specs.List.{AllZip, cons_option}
use Rattle.std.specs.Option.{option_or}
use Rattle.std.proofs.lemmas.Option.{slice_get_read}
use Rattle.vw_design.specs.declared.item.Bind.{Bind}
use Rattle.vw_design.specs.declared.item.Item.{Item}
use Rattle.vw_design.specs.declared.item.Item.TheVariants.{Names, Latch, Sub}
use Rattle.vw_design.specs.declared.model.Model.{Model}
use Rattle.vw_design.specs.declared.design.Design.{Design}
use Rattle.vw_net.specs.FirstFound.{first_found}
use Rattle.vw_design.specs.Paths.{Word, model_named, is_port}
use Rattle.vw_design.specs.ModelFaults.{NameAt, NameOf, by_placing, first_placing, reached, unknown_formal_in, unknown_formal, unbound_input_in, unbound_input, port_both_ways, at_model}
use Rattle.vw_design.proofs.ModelNumbers.{name_of_named}
use Rattle.vw_design.proofs.PairedLists.{AllZip-back}
use Rattle.vw_net.proofs.FirstFound.{found_append}
use Rattle.vw_models.specs.declared.numbered_placing.NumberedPlacing.{NumberedPlacing}
use Rattle.vw_models.specs.Steps.PlacedModels.{PlacedModel, placed_by, placed_models, IsNumberedPlacing, at_numbered}
use Rattle.vw_models.specs.Steps.FoundAtPlaced.{unknown_formal_at, unbound_input_at, both_ways_at}

abbrev pub the_name : ℕ → Word → NameAt
the_name line formal = record { line = line; name = formal }

abbrev pub the_output : Word → Word → NameOf
the_output model output = record { model = model; name = output }

module _ (design : Design) where
  -- its model
  pub model_of : (all_numbered : List NumberedPlacing) (i : ℕ) (numbered : NumberedPlacing) → AllZip (IsNumberedPlacing design) (placed_models design) all_numbered → i < length all_numbered → numbered ≡ get_or all_numbered i numbered
      → (model : Model) × (slice_get design.models numbered.number ≡ Some model)
  model_of all_numbered i numbered along within at =
      let placed = AllZip-back (IsNumberedPlacing design) (placed_models design) all_numbered i numbered along (slice_get_read all_numbered (length all_numbered) i numbered refl within at) in
      (placed.0.model, placed.2.model)

  module _ {A : Type 0} (search : ℕ → Model → List Bind → Option A) where
    abbrev at_placed : PlacedModel → Option A
    at_placed placed = search placed.line placed.model placed.binds

    placed_same : (placed : PlacedModel) (numbered : NumberedPlacing) → IsNumberedPlacing design placed numbered → at_numbered design search numbered ≡ at_placed placed
    placed_same placed numbered is =
        ap (option_and_then (λ (model : Model). search numbered.line model numbered.binds.now)) is.model
        ∙ ap₂ (λ (line : ℕ) (binds : List Bind). search line placed.model binds) is.line is.binds

    along : (placed : List PlacedModel) (all_numbered : List NumberedPlacing) → AllZip (IsNumberedPlacing design) placed all_numbered → first_found (at_numbered design search) all_numbered ≡ first_found at_placed placed
    along [] [] are = refl
    along [] (numbered ∷ all_numbered) are = absurd are
    along (first ∷ placed) [] are = absurd are
    along (first ∷ placed) (numbered ∷ all_numbered) are = ap₂ (λ (a b : Option A). option_or a b) (placed_same first numbered are.0) (along placed all_numbered are.1)

    module _ (query : ℕ → Word → List Bind → Option A) (whole : (line : ℕ) (name : Word) (binds : List Bind) → query line name binds ≡ option_and_then (λ model. search line model binds) (model_named design.models name)) where
      by_item : (line : ℕ) (name : Word) (binds : List Bind) (rest : List PlacedModel) (found : Option Model)
          → first_found at_placed (cons_option (option_map (λ (model : Model). record { line = line; model = model; binds = binds }) found) rest)
          ≡ option_or (option_and_then (λ model. search line model binds) found) (first_found at_placed rest)
      by_item line name binds rest None = refl
      by_item line name binds rest (Some model) = refl

      of_items : (items : List Item) → first_found at_placed (filter_map (placed_by design) items) ≡ first_found (by_placing query) items
      of_items [] = refl
      of_items (Names line ins out cover ∷ items) = of_items items
      of_items (Latch line d q edge control init ∷ items) = of_items items
      of_items (Sub line name binds ∷ items) =
          by_item line name binds (filter_map (placed_by design) items) (model_named design.models name)
          ∙ ap₂ (λ (a b : Option A). option_or a b) (sym (whole line name binds)) (of_items items)

      of_models : (models : List Model) → first_found at_placed (flat_map (λ model. filter_map (placed_by design) model.items) models) ≡ first_found (λ model. first_found (by_placing query) model.items) models
      of_models [] = refl
      of_models (model ∷ models) =
          found_append at_placed (filter_map (placed_by design) model.items) (flat_map (λ (m : Model). filter_map (placed_by design) m.items) models)
          ∙ ap₂ (λ (a b : Option A). option_or a b) (of_items model.items) (of_models models)

      pub searched : (all_numbered : List NumberedPlacing) → AllZip (IsNumberedPlacing design) (placed_models design) all_numbered → first_found (at_numbered design search) all_numbered ≡ first_placing design query
      searched all_numbered are = along (placed_models design) all_numbered are ∙ of_models (reached design)

  -- the three faults
  module _ (all_numbered : List NumberedPlacing) (are : AllZip (IsNumberedPlacing design) (placed_models design) all_numbered) where
    pub unknown_is : first_found (at_numbered design unknown_formal_at) all_numbered ≡ unknown_formal design
    unknown_is = searched unknown_formal_at
        (λ line name binds. option_map (λ formal. record { line = line; name = formal }) (at_model design (λ model. unknown_formal_in model binds) name))
        (λ line name binds. by line binds (model_named design.models name))
        all_numbered are
      where
        by : (line : ℕ) (binds : List Bind) (found : Option Model)
            → option_map (λ (formal : Word). the_name line formal) (option_and_then (λ model. unknown_formal_in model binds) found) ≡ option_and_then (λ model. unknown_formal_at line model binds) found
        by line binds None = refl
        by line binds (Some model) = refl

    pub unbound_is : first_found (at_numbered design unbound_input_at) all_numbered ≡ unbound_input design
    unbound_is = searched unbound_input_at
        (λ line name binds. option_map (λ formal. record { line = line; name = formal }) (at_model design (λ model. unbound_input_in model binds) name))
        (λ line name binds. by line binds (model_named design.models name))
        all_numbered are
      where
        by : (line : ℕ) (binds : List Bind) (found : Option Model)
            → option_map (λ (formal : Word). the_name line formal) (option_and_then (λ model. unbound_input_in model binds) found) ≡ option_and_then (λ model. unbound_input_at line model binds) found
        by line binds None = refl
        by line binds (Some model) = refl

    pub both_is : first_found (at_numbered design both_ways_at) all_numbered ≡ port_both_ways design
    both_is = searched both_ways_at
        (λ line name binds. option_map (λ output. record { model = name; name = output }) (at_model design (λ model. find (is_port model) model.outputs) name))
        (λ line name binds. by line name binds (model_named design.models name) refl)
        all_numbered are
      where
        by : (line : ℕ) (name : Word) (binds : List Bind) (found : Option Model) → model_named design.models name ≡ found
            → option_map (λ (output : Word). the_output name output) (option_and_then (λ model. find (is_port model) model.outputs) found) ≡ option_and_then (λ model. both_ways_at line model binds) found
        by line name binds None is = refl
        by line name binds (Some model) is = ap (λ (w : Word). option_map (λ (output : Word). the_output w output) (find (is_port model) model.outputs)) (sym (name_of_named design name model is))
