-- What a frame has next.
use Rattle.std.proofs.Common.{◌≡◌, ℕ, suc, List, ◌∷◌, ◌++◌, length, Option, Some, None, is_none, if◌then◌else◌, slice_get, option_and_then, inl, refl, sym, ◌∙◌, ap, subst}
use Rattle.std.specs.List.{AllZip}
use Rattle.std.proofs.lemmas.Option.{none-some}
use Rattle.std.proofs.lemmas.List.Elements.{filter_map-append}
use Rattle.vw_design.specs.declared.item.Bind.{Bind}
use Rattle.vw_design.specs.declared.item.Item.{Item}
use Rattle.vw_design.specs.declared.item.Item.TheVariants.{Sub}
use Rattle.vw_design.specs.declared.model.Model.{Model}
use Rattle.vw_design.specs.declared.design.Design.{Design}
use Rattle.vw_design.specs.Paths.{Word, Path, Placing, placing_of, placings, model_named, model_placed, model_at, items_of}
use Rattle.vw_design.specs.ModelFaults.{unknown_model}
use Rattle.vw_design.specs.ModelNumbers.{IsNumberOfModel, AreTargets}
use Rattle.vw_design.specs.Limits.{IsSmall}
use Rattle.vw_design.proofs.ListElements.{Has, Has-right}
use Rattle.vw_design.proofs.ShallowDesigns.{shallow, nothing_placed}
use Rattle.vw_design.proofs.PlacedInstances.{known_model}
use Rattle.vw_instances.specs.declared.frame.Frame.{Frame}
use Rattle.vw_instances.specs.Steps.Nexts.{target_at, next_by, next_of}
use Rattle.vw_instances.specs.Steps.Frames.{FrameLevel, IsFrame}
use Rattle.vw_design.proofs.ListPlaces.{behind}
use Rattle.vw_design.proofs.PairedLists.{AllZip-at}

-- the model that comes next, and its number
pub record IsPlacedNext (design : Design) (targets : List (List (Option ℕ))) (path : Path) (before : ℕ) (frame : Frame) : Type 0 where
  pub number : ℕ
  pub model : Model
  pub target_is : target_at targets frame.model frame.before ≡ Some number
  pub model_is : slice_get design.models number ≡ Some model
  pub stands : model_at design (suc before ∷ path) ≡ Some model

module _ (design : Design) where
  -- it goes by the first item that is left
  pub next_is : (targets : List (List (Option ℕ))) (listed : List Path) (done : ℕ) (level : FrameLevel) (frame : Frame) → IsFrame design listed done level frame
      → next_of design targets frame.model frame.item frame.before ≡ next_by (target_at targets frame.model frame.before) (slice_get level.left 0)
  next_is targets listed done level frame is =
      let items : items_of (slice_get design.models frame.model) ≡ level.front ++ level.left = ap items_of is.model_is ∙ is.items in
      ap (λ (list : List Item). next_by (target_at targets frame.model frame.before) (slice_get list frame.item)) items
      ∙ ap (λ (n : ℕ). next_by (target_at targets frame.model frame.before) (slice_get (level.front ++ level.left) n)) is.item_is
      ∙ ap (next_by (target_at targets frame.model frame.before)) (behind level.front level.left)

  module _ (targets : List (List (Option ℕ))) (are_targets : AreTargets design targets) (none_unknown : unknown_model design ≡ None) (small : IsSmall design) where
    -- a `.subckt` item has a model with a number
    pub placed_next : (listed : List Path) (done : ℕ) (path : Path) (front rest : List Item) (line : ℕ) (name : Word) (binds : List Bind) (frame : Frame)
        → IsFrame design listed done (record { path = path; front = front; left = Sub line name binds ∷ rest }) frame
        → IsPlacedNext design targets path (length (placings front)) frame
    placed_next listed done path front rest line name binds frame is =
        let placing : Placing = record { model = name; binds = binds } in
        let has : Has (Sub line name binds) is.model.items =
        subst (λ (list : List Item). Has (Sub line name binds) list) (sym is.items) (Has-right (Sub line name binds) front (Sub line name binds ∷ rest) (inl refl)) in
        let nothing = nothing_placed design (shallow design small.depth) (λ l m bs. if is_none (model_named design.models m) then Some l else None) none_unknown path is.model is.stands line name binds has in
        let found = known_model design line (model_named design.models name) nothing in
        let placed_at : slice_get (placings is.model.items) (length (placings front)) ≡ Some placing =
        ap (λ (list : List Item). slice_get (placings list) (length (placings front))) is.items
        ∙ ap (λ (list : List Placing). slice_get list (length (placings front))) (filter_map-append placing_of front (Sub line name binds ∷ rest))
        ∙ behind (placings front) (placing ∷ placings rest) in
        let numbers = AllZip-at (λ (m : Model) (ns : List (Option ℕ)). AllZip (λ (p : Placing) (n : Option ℕ). IsNumberOfModel design p.model n) (placings m.items) ns)
        design.models targets frame.model is.model are_targets is.model_is in
        let number = AllZip-at (λ (p : Placing) (n : Option ℕ). IsNumberOfModel design p.model n) (placings is.model.items) numbers.0 frame.before placing numbers.2
        (ap (slice_get (placings is.model.items)) is.before_is ∙ placed_at) in
        let target : target_at targets frame.model frame.before ≡ number.0 =
        ap (option_and_then (λ (ns : List (Option ℕ)). option_and_then (λ (n : Option ℕ). n) (slice_get ns frame.before))) numbers.1
        ∙ ap (option_and_then (λ (n : Option ℕ). n)) number.1 in
        let stands : model_at design (suc (length (placings front)) ∷ path) ≡ Some found.0 =
        ap (option_and_then (model_placed design (suc (length (placings front))))) is.stands
        ∙ ap (option_and_then (λ (p : Placing). model_named design.models p.model)) placed_at ∙ found.1 in
        by found.0 found.1 stands number.0 target number.2
      where
        by : (model : Model) → model_named design.models name ≡ Some model → model_at design (suc (length (placings front)) ∷ path) ≡ Some model
            → (number : Option ℕ) → target_at targets frame.model frame.before ≡ number → IsNumberOfModel design name number
            → IsPlacedNext design targets path (length (placings front)) frame
        by model named stands None target is_number = absurd (none-some model (sym is_number ∙ named))
        by model named stands (Some number) target is_number = record {
          number = number;
          model = model;
          target_is = target;
          model_is = is_number.1 ∙ named;
          stands = stands;
        }
