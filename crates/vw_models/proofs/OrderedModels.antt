-- Orders of models, from orders of their numbers; and no circle where there is one.
use Rattle.std.proofs.Common.{◌≡◌, ◌<◌, ℕ, true, cond, List, [], length, take, filter, get_or, slice_get, nat_lt, Option, Some, None, is_some, refl, sym, ◌∙◌, ap, subst, true≢false, arith}
use Rattle.std.specs.Cmp.{both_ways}
use Rattle.std.specs.List.{list_any, list_all, position_or_len}
use Rattle.std.specs.Option.{is_none}
use Rattle.std.proofs.lemmas.Bool.{and_from, lt-ltb}
use Rattle.std.proofs.lemmas.List.{take_all}
use Rattle.std.proofs.lemmas.List.Sums.{passes_at_first}
use Rattle.std.proofs.lemmas.Option.{none-some, same_Some}
use Rattle.vw_net.specs.Order.{is_among}
use Rattle.vw_design.specs.declared.item.Bind.{Bind}
use Rattle.vw_design.specs.declared.item.Item.{Item}
use Rattle.vw_design.specs.declared.item.Item.TheVariants.{Names, Latch, Sub}
use Rattle.vw_design.specs.declared.model.Model.{Model}
use Rattle.vw_design.specs.declared.design.Design.{Design}
use Rattle.vw_net.specs.FirstFound.{first_found}
use Rattle.vw_design.specs.Paths.{Word, Placing, placing_of, placings, model_named, items_of}
use Rattle.vw_design.specs.ModelFaults.{has_model_name, is_reached, names_model, unknown_model, IsModelCircle, place_in_file}
use Rattle.vw_design.specs.Counts.{is_below, IsRanking}
use Rattle.vw_design.specs.ModelNumbers.{IsNumberOfModel, AreTargets, is_reached_model, has_number_among, IsModelOrder}
use Rattle.vw_design.proofs.Circles.{no_circle}
use Rattle.vw_design.proofs.ListElements.{Has, Has-at, any-Has, from-any, all-Has, Has-filter, Has-filter_map, from-filter_map, none-found, all_pass}
use Rattle.vw_design.proofs.Names.{equal_names}
use Rattle.vw_models.specs.Steps.Reach.{Targets, IsClosedByPlacing, PlacesAt}
use Rattle.vw_models.specs.Steps.Unknown.{unknown_of}
use Rattle.vw_order.specs.Orders.{IsNumberOrder}
use Rattle.vw_net.proofs.Orders.{among_at, at_among}
use Rattle.vw_order.proofs.Among.{front_among, front_position, once_apart}
use Rattle.vw_models.specs.Steps.ModelGraphs.{graph_of_models}
use Rattle.vw_models.proofs.NumbersInLists.{among_Has, Has_among}
use Rattle.vw_models.proofs.FirstUnknown.{unknown_is}
use Rattle.vw_design.proofs.ModelNumbers.{model_of_place, same_number, name_of_named, named_by}
use Rattle.vw_design.proofs.ListPlaces.{at_within}
use Rattle.vw_models.proofs.Models.{number_placed, reached_least_numbers}

module _ (design : Design) where
  -- the model of a number has the name
  has_name_at : (number : ℕ) (name : Word) → number < length design.models → slice_get design.models number ≡ model_named design.models name → has_model_name name (slice_get design.models number) ≡ true
  has_name_at number name within is =
      let model = at_within design.models number within in
      ap (has_model_name name) model.1 ∙ equal_names model.0.name name (name_of_named design name model.0 (sym is ∙ model.1))

  module _ (targets : Targets) (are : AreTargets design targets) (none : unknown_model design ≡ None) (order : List ℕ) (is_order : IsNumberOrder (graph_of_models design targets) order) where
    -- a reached model places models alone
    sub_of : (placing : Placing) (item : Item) → placing_of item ≡ Some placing → (line : ℕ) × (item ≡ Sub line placing.model placing.binds)
    sub_of placing (Names line ins out cover) is = absurd (none-some placing is)
    sub_of placing (Latch line d q edge control init) is = absurd (none-some placing is)
    sub_of placing (Sub line model binds) is = (line, ap (λ (p : Placing). Sub line p.model p.binds) (same_Some (record { model = model; binds = binds }) placing is))

    is_known : (line : ℕ) (found : Option Model) → cond (is_none found) (Some line) None ≡ None → is_some found ≡ true
    is_known line None is = absurd (none-some line (sym is))
    is_known line (Some model) is = refl

    places_known : (number : ℕ) (model : Model) → slice_get design.models number ≡ Some model → is_reached design model.name ≡ true → (line : ℕ) (name : Word) (binds : List Bind) → Has (Sub line name binds) model.items → is_some (model_named design.models name) ≡ true
    places_known number model at reached line name binds has =
        let in_file = Has-filter (λ (m : Model). is_reached design m.name) model design.models (Has-at model design.models number at) reached in
        let in_model = none-found (λ (m : Model). first_found (unknown_of design) m.items) model (filter (λ (m : Model). is_reached design m.name) design.models) (unknown_is design ∙ none) in_file in
        is_known line (model_named design.models name) (none-found (unknown_of design) (Sub line name binds) model.items in_model has)

    closed : IsClosedByPlacing targets (is_among order)
    closed = record {
      root = is_order.all 0 refl;
      placed = λ number place kid among places.
          let at = among_at order number among in
          front_among order at.0 kid (is_order.behind at.0 place kid at.1 (subst (λ (n : ℕ). PlacesAt targets n place kid) (sym at.2) places));
    }

    -- each placing of a model has a number before it
    each_before : (i : ℕ) → i < length order → (model : Model) → slice_get design.models (get_or order i 0) ≡ Some model → (placing : Placing) → Has placing (placings model.items) → has_number_among design (take i order) placing.model ≡ true
    each_before i within model at placing has =
        let item = from-filter_map placing_of placing model.items has in
        let sub = sub_of placing item.0 item.2 in
        let has_sub : Has (Sub sub.0 placing.model placing.binds) model.items = subst (λ (x : Item). Has x model.items) sub.1 item.1 in
        let reached : is_reached design model.name ≡ true = sym (ap (is_reached_model design) at) ∙ is_order.counted (get_or order i 0) (at_among order i 0 within) in
        let known = places_known (get_or order i 0) model at reached sub.0 placing.model placing.binds has_sub in
        let places = any-Has (names_model placing.model) (Sub sub.0 placing.model placing.binds) model.items has_sub (equal_names placing.model placing.model refl) in
        let found = number_placed design targets are (get_or order i 0) model placing.model at places in
        by found.0 found.1 found.2 found.3 known
      where
        by : (place : ℕ) (found : Option ℕ) → slice_get (get_or targets (get_or order i 0) []) place ≡ Some found → IsNumberOfModel design placing.model found → is_some (model_named design.models placing.model) ≡ true → has_number_among design (take i order) placing.model ≡ true
        by place None there is known = absurd (true≢false (sym known ∙ ap (λ (m : Option Model). is_some m) is))
        by place (Some kid) there is known =
            any-Has (λ (n : ℕ). has_model_name placing.model (slice_get design.models n)) kid (take i order) (among_Has (take i order) kid (is_order.behind i place kid within there)) (has_name_at kid placing.model is.0 is.1)

    pub model_order : IsModelOrder design order
    model_order = record {
      each = λ number. both_ways (is_among order number) (is_reached_model design (slice_get design.models number)) (is_order.counted number) (λ reached. reached_least_numbers design targets are (is_among order) closed number reached);
      once = once_apart order is_order.once;
      behind = λ i within. all_before i within (slice_get design.models (get_or order i 0)) refl;
    } where
      all_before : (i : ℕ) → i < length order → (found : Option Model) → slice_get design.models (get_or order i 0) ≡ found → list_all (λ placing. has_number_among design (take i order) placing.model) (placings (items_of found)) ≡ true
      all_before i within None at = refl
      all_before i within (Some model) at = all_pass (λ (placing : Placing). has_number_among design (take i order) placing.model) (placings model.items) (each_before i within model at)

  module _ (order : List ℕ) (is_order : IsModelOrder design order) where
    -- the place of a name in the order
    abbrev pub place_in_order : Word → ℕ
    place_in_order name = position_or_len (λ number. has_model_name name (slice_get design.models number)) order

    -- what an item places stands before a place
    item_below : (p : ℕ) (item : Item) → ((placing : Placing) → placing_of item ≡ Some placing → has_number_among design (take p order) placing.model ≡ true) → is_below (is_reached design) place_in_order p item ≡ true
    item_below p (Names line ins out cover) before = refl
    item_below p (Latch line d q edge control init) before = refl
    item_below p (Sub line name binds) before =
        let has = before (record { model = name; binds = binds }) refl in
        let found = from-any (λ (n : ℕ). has_model_name name (slice_get design.models n)) (take p order) has in
        let model = named_by name (slice_get design.models found.0) found.2 in
        let among = front_among order p found.0 (Has_among (take p order) found.0 found.1) in
        let reached : is_reached design name ≡ true = ap (is_reached design) (sym model.2) ∙ sym (ap (is_reached_model design) model.1) ∙ sym (is_order.each found.0) ∙ among in
        and_from (is_reached design name) (nat_lt (place_in_order name) p) reached (lt-ltb (place_in_order name) p (front_position (λ (n : ℕ). has_model_name name (slice_get design.models n)) order p has))

    pub ranking : IsRanking design (is_reached design) place_in_order
    ranking = record { falls = λ name reached. by name reached (model_named design.models name) refl } where
      by : (name : Word) → is_reached design name ≡ true → (found : Option Model) → model_named design.models name ≡ found → list_all (is_below (is_reached design) place_in_order (place_in_order name)) (items_of found) ≡ true
      by name reached None is = refl
      by name reached (Some model) is =
          let number = place_in_file design name in
          let at : slice_get design.models number ≡ Some model = sym (model_of_place design name) ∙ is in
          let named : model.name ≡ name = name_of_named design name model is in
          let among : is_among order number ≡ true = is_order.each number ∙ ap (is_reached_model design) at ∙ ap (is_reached design) named ∙ reached in
          let passes : has_model_name name (slice_get design.models number) ≡ true = ap (has_model_name name) at ∙ equal_names model.name name named in
          let any : list_any (λ (n : ℕ). has_model_name name (slice_get design.models n)) order ≡ true = any-Has (λ (n : ℕ). has_model_name name (slice_get design.models n)) number order (among_Has order number among) passes in
          let p = place_in_order name in
          let whole : take (length order) order ≡ order = take_all (length order) order (omega arith) in
          let within : p < length order = front_position (λ (n : ℕ). has_model_name name (slice_get design.models n)) order (length order) (ap (list_any (λ (n : ℕ). has_model_name name (slice_get design.models n))) whole ∙ any) in
          let here = passes_at_first (λ (n : ℕ). has_model_name name (slice_get design.models n)) order 0 within in
          let there = named_by name (slice_get design.models (get_or order p 0)) here in
          let same : get_or order p 0 ≡ number = same_number design (get_or order p 0) number there.0 model there.1 at (there.2 ∙ sym named) in
          let before : list_all (λ placing. has_number_among design (take p order) placing.model) (placings model.items) ≡ true =
          ap (λ (m : Option Model). list_all (λ (placing : Placing). has_number_among design (take p order) placing.model) (placings (items_of m))) (sym (ap (slice_get design.models) same ∙ at)) ∙ is_order.behind p within in
          all_pass (is_below (is_reached design) place_in_order p) model.items
          (λ item has. item_below p item (λ placing is_placing. all-Has (λ (q : Placing). has_number_among design (take p order) q.model) placing (placings model.items) before (Has-filter_map placing_of placing item model.items has is_placing)))

    pub ordered_no_circle : (names : List Word) → IsModelCircle design names → ⊥
    ordered_no_circle names circle = no_circle design place_in_order ranking names circle
