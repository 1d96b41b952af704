-- Models by their numbers: what the numbers say of names, and which numbers are reached.
use Rattle.std.proofs.Common.{◌≡◌, ℕ, Bool, true, List, [], length, get_or, slice_get, Option, Some, None, is_some, refl, sym, ◌∙◌, ap, true≢false, arith}
use Rattle.std.specs.List.{AllZip, list_any}
use Rattle.std.proofs.lemmas.Bool.{eqb-true}
use Rattle.std.proofs.lemmas.Option.{none-some, same_Some, slice_get_within, get_or_from_slice_get}
use Rattle.vw_design.specs.declared.item.Bind.{Bind}
use Rattle.vw_design.specs.declared.item.Item.{Item}
use Rattle.vw_design.specs.declared.item.Item.TheVariants.{Names, Latch, Sub}
use Rattle.vw_design.specs.declared.model.Model.{Model}
use Rattle.vw_design.specs.declared.design.Design.{Design}
use Rattle.vw_design.specs.Paths.{Word, Placing, placing_of, placings, model_named, model_at}
use Rattle.vw_design.specs.ModelFaults.{is_reached, names_model, model_places, place_in_file}
use Rattle.vw_design.specs.ModelNumbers.{IsNumberOfModel, AreTargets, is_reached_model}
use Rattle.vw_design.proofs.ListElements.{Has-at, at-Has, any-Has, from-any, from-filter_map, Has-filter_map}
use Rattle.vw_design.proofs.Names.{same_name, equal_names}
use Rattle.vw_design.proofs.ModelNumbers.{place_of_model, model_of_place, named_at, name_of_named, root_model}
use Rattle.vw_design.proofs.ReachedFromRoot.{reached_at, reached_closed, reached_least}
use Rattle.vw_design.proofs.PairedLists.{AllZip-at, AllZip-length, AllZip-back}
use Rattle.vw_design.proofs.ListPlaces.{at_within, list_at}
use Rattle.vw_models.specs.Steps.Reach.{Targets, PlacesAt, AreWithin, IsClosedByPlacing}
use Rattle.vw_order.specs.Graphs.{StaysWithin}
use Rattle.vw_models.specs.Steps.ModelGraphs.{graph_of_models}
use Rattle.vw_models.proofs.NumberedModels.{reached_within}

module _ (design : Design) where
  -- the item of a placing, and the placing of an item
  item_names : (placing : Placing) (item : Item) → placing_of item ≡ Some placing → names_model placing.model item ≡ true
  item_names placing (Names line ins out cover) is = absurd (none-some placing is)
  item_names placing (Latch line d q edge control init) is = absurd (none-some placing is)
  item_names placing (Sub line model binds) is = equal_names model placing.model (ap (λ (p : Placing). p.model) (same_Some (record { model = model; binds = binds }) placing is))

  placing_names : (name : Word) (item : Item) → names_model name item ≡ true → (binds : List Bind) × (placing_of item ≡ Some (record { model = name; binds = binds }))
  placing_names name (Names line ins out cover) names = absurd (true≢false (sym names))
  placing_names name (Latch line d q edge control init) names = absurd (true≢false (sym names))
  placing_names name (Sub line model binds) names = (binds, ap (λ (w : Word). Some (record { model = w; binds = binds })) (same_name model name names))

  module _ (targets : Targets) (are : AreTargets design targets) where
    pub each_model : length targets ≡ length design.models
    each_model = sym (AllZip-length (λ model numbers. AllZip (λ placing number. IsNumberOfModel design placing.model number) (placings model.items) numbers) design.models targets are)

    -- a number that stands at a place is that of a model that is placed
    pub record IsPlacedNumber (number placed : ℕ) : Type 0 where
      pub model : Model
      pub next : Model
      pub at : slice_get design.models number ≡ Some model
      pub next_at : slice_get design.models placed ≡ Some next
      pub places : model_places (Some model) next.name ≡ true

    pub placed : (number place kid : ℕ) → PlacesAt targets number place kid → IsPlacedNumber number kid
    placed number place kid places =
        let listed = list_at targets number place (Some kid) places in
        let model = AllZip-back (λ model numbers. AllZip (λ placing number. IsNumberOfModel design placing.model number) (placings model.items) numbers) design.models targets number (get_or targets number []) are listed in
        let placing = AllZip-back (λ placing number. IsNumberOfModel design placing.model number) (placings model.0.items) (get_or targets number []) place (Some kid) model.2 places in
        let next = at_within design.models kid placing.2.0 in
        let item = from-filter_map placing_of placing.0 model.0.items (Has-at placing.0 (placings model.0.items) place placing.1) in
        let named : next.0.name ≡ placing.0.model = name_of_named design placing.0.model next.0 (sym placing.2.1 ∙ next.1) in
        record {
          model = model.0;
          next = next.0;
          at = model.1;
          next_at = next.1;
          places = ap (λ (w : Word). list_any (names_model w) model.0.items) named ∙ any-Has (names_model placing.0.model) item.0 model.0.items item.1 (item_names placing.0 item.0 item.2);
        }

    -- and each model that is placed has its number there
    pub number_placed : (number : ℕ) (model : Model) (name : Word) → slice_get design.models number ≡ Some model → model_places (Some model) name ≡ true
        → (place : ℕ) × (found : Option ℕ) × (slice_get (get_or targets number []) place ≡ Some found) × IsNumberOfModel design name found
    number_placed number model name at places =
        let item = from-any (names_model name) model.items places in
        let placing = placing_names name item.0 item.2 in
        let place = at-Has (record { model = name; binds = placing.0 }) (placings model.items) (Has-filter_map placing_of (record { model = name; binds = placing.0 }) item.0 model.items item.1 placing.1) in
        let row = AllZip-at (λ model numbers. AllZip (λ placing number. IsNumberOfModel design placing.model number) (placings model.items) numbers) design.models targets number model are at in
        let here = AllZip-at (λ placing number. IsNumberOfModel design placing.model number) (placings model.items) row.0 place.0 (record { model = name; binds = placing.0 }) row.2 place.1 in
        (place.0, here.0, ap (λ (l : List (Option ℕ)). slice_get l place.0) (get_or_from_slice_get targets number row.0 [] row.1) ∙ here.1, here.2)

    pub within : AreWithin targets
    within = record {
      some = omega (arith, each_model, design.some);
      within = λ number place kid places. omega (arith, each_model, slice_get_within design.models kid (placed number place kid places).next (placed number place kid places).next_at);
    }

    -- the numbers of reached models are closed
    abbrev root : (model : Model) × (model_at design [] ≡ Some model)
    root = root_model design

    pub reached_closed_numbers : IsClosedByPlacing targets (λ number. is_reached_model design (slice_get design.models number))
    reached_closed_numbers = record {
      root = ap (is_reached_model design) root.1 ∙ reached_at design [] root.0 root.1;
      placed = λ number place kid there places.
          let is = placed number place kid places in
          let here : is_reached design is.model.name ≡ true = sym (ap (is_reached_model design) is.at) ∙ there in
          ap (is_reached_model design) is.next_at
          ∙ reached_closed design is.model.name is.next.name here (ap (λ (m : Option Model). model_places m is.next.name) (named_at design number is.model is.at) ∙ is.places) (ap (λ (m : Option Model). is_some m) (named_at design kid is.next is.next_at));
    }

    -- so a search from the root comes to them alone
    pub search_within : StaysWithin (graph_of_models design targets)
    search_within = record {
      below = reached_within design;
      started = λ number start. ap (λ (n : ℕ). is_reached_model design (slice_get design.models n)) (eqb-true number 0 start) ∙ reached_closed_numbers.root;
      read = λ number place kid there places. reached_closed_numbers.placed number place kid there places;
    }

    -- and the least that are
    pub reached_least_numbers : (test : ℕ → Bool) → IsClosedByPlacing targets test → (number : ℕ) → is_reached_model design (slice_get design.models number) ≡ true → test number ≡ true
    reached_least_numbers test closed number reached = by (slice_get design.models number) refl reached where
      by_name : (name next : Word) → test (place_in_file design name) ≡ true → model_places (model_named design.models name) next ≡ true → is_some (model_named design.models next) ≡ true → test (place_in_file design next) ≡ true
      by_name name next there places some = named (model_named design.models name) refl places where
        number_known : (found : Option ℕ) (place : ℕ) → slice_get (get_or targets (place_in_file design name) []) place ≡ Some found → IsNumberOfModel design next found → test (place_in_file design next) ≡ true
        number_known None place at none = absurd (true≢false (sym some ∙ ap (λ (m : Option Model). is_some m) none))
        number_known (Some kid) place at is =
            let model = at_within design.models kid is.0 in
            let named : model.0.name ≡ next = name_of_named design next model.0 (sym is.1 ∙ model.1) in
            let same : place_in_file design next ≡ kid = ap (place_in_file design) (sym named) ∙ place_of_model design kid model.0 model.1 in
            ap test same ∙ closed.placed (place_in_file design name) place kid there at

        named : (found : Option Model) → model_named design.models name ≡ found → model_places found next ≡ true → test (place_in_file design next) ≡ true
        named None is places = absurd (true≢false (sym places))
        named (Some model) is places =
            let here = number_placed (place_in_file design name) model next (sym (model_of_place design name) ∙ is) places in
            number_known here.1 here.0 here.2 here.3

      by : (found : Option Model) → slice_get design.models number ≡ found → is_reached_model design found ≡ true → test number ≡ true
      by None is reached = absurd (true≢false (sym reached))
      by (Some model) is reached =
          ap test (sym (place_of_model design number model is))
          ∙ reached_least design root.0 root.1 (λ (name : Word). test (place_in_file design name)) (ap test (place_of_model design 0 root.0 root.1) ∙ closed.root) by_name model.name reached
