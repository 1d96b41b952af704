-- A circle of models by their names, from a circle of their numbers.
use Rattle.std.proofs.Common.{◌≡◌, ◌<◌, not, ℕ, suc, Bool, true, false, List, [], ◌∷◌, length, map, get_or, slice_get, Option, Some, None, inl, refl, sym, ◌∙◌, ap, subst, eqb, true≢false, arith}
use Rattle.std.specs.List.{AllZip, IsDistinct}
use Rattle.std.proofs.lemmas.Bool.{and_from}
use Rattle.std.proofs.lemmas.List.{length-map, get_or-map}
use Rattle.std.proofs.lemmas.Map.Keys.{IsDistinct-tail}
use Rattle.vw_net.specs.Order.{is_among}
use Rattle.vw_net.proofs.Lists.{map_turned}
use Rattle.vw_design.specs.declared.model.Model.{Model}
use Rattle.vw_design.specs.declared.design.Design.{Design}
use Rattle.vw_design.specs.Distinct.{has_name, are_distinct}
use Rattle.vw_net.specs.Lists.{turned}
use Rattle.vw_design.specs.Paths.{Word, model_named}
use Rattle.vw_design.specs.ModelFaults.{is_reached, model_places, place_in_file, IsModelCircle}
use Rattle.vw_design.specs.ModelNumbers.{AreTargets, is_reached_model}
use Rattle.vw_design.proofs.ListElements.{from-map}
use Rattle.vw_design.proofs.Names.{Has-has_name}
use Rattle.vw_models.specs.Steps.Reach.{Targets}
use Rattle.vw_order.specs.Graphs.{Reads}
use Rattle.vw_order.specs.Circles.{IsNumberCircle, BeginsWithLeast}
use Rattle.vw_net.proofs.Orders.{among_at, at_among}
use Rattle.vw_order.proofs.Among.{among_right, once_apart}
use Rattle.vw_models.specs.Steps.ModelGraphs.{graph_of_models}
use Rattle.vw_models.specs.Steps.ModelNames.{name_if_any, numbered_names}
use Rattle.vw_models.proofs.NumbersInLists.{Has_among}
use Rattle.vw_design.proofs.ModelNumbers.{place_of_model, named_at, same_number}
use Rattle.vw_design.proofs.PairedLists.{AllZip-maps}
use Rattle.vw_design.proofs.ListPlaces.{at_within}
use Rattle.vw_models.proofs.Models.{placed, search_within}

-- the first of numbers of which none stands twice isn't among the rest
first_apart : (number : ℕ) (numbers : List ℕ) → IsDistinct eqb (number ∷ numbers) → is_among numbers number ≡ true → ⊥
first_apart number numbers once among =
    let at = among_at numbers number among in
    once_apart (number ∷ numbers) once 0 (suc at.0) (omega arith) (omega (arith, at.1)) (sym at.2)

module _ (design : Design) where
  -- the name of a number
  abbrev called : ℕ → Word
  called number = name_if_any (slice_get design.models number)

  called_apart : (one other : ℕ) → one < length design.models → other < length design.models → called one ≡ called other → one ≡ other
  called_apart one other within_one within_other same =
      let a = at_within design.models one within_one in
      let b = at_within design.models other within_other in
      same_number design one other a.0 b.0 a.1 b.1 (sym (ap name_if_any a.1) ∙ same ∙ ap name_if_any b.1)

  names_apart : (numbers : List ℕ) → IsDistinct eqb numbers → ((number : ℕ) → is_among numbers number ≡ true → number < length design.models) → are_distinct (map (λ number. name_if_any (slice_get design.models number)) numbers) ≡ true
  names_apart [] once inside = refl
  names_apart (number ∷ numbers) once inside =
      and_from (not (has_name (map called numbers) (called number))) (are_distinct (map called numbers))
      (by (has_name (map called numbers) (called number)) refl)
      (names_apart numbers (IsDistinct-tail eqb number numbers once) (λ other among. inside other (among_right (number ∷ []) numbers other among)))
    where
      by : (b : Bool) → has_name (map called numbers) (called number) ≡ b → not b ≡ true
      by false is = refl
      by true is =
          let found = from-map called (called number) numbers (Has-has_name (map called numbers) (called number) is) in
          let among = Has_among numbers found.0 found.1 in
          let same = called_apart found.0 number (inside found.0 (among_right (number ∷ []) numbers found.0 among)) (inside number (Has_among (number ∷ numbers) number (inl refl))) found.2 in
          absurd (first_apart number numbers once (ap (is_among numbers) (sym same) ∙ among))

  reached_called : (number : ℕ) → is_reached_model design (slice_get design.models number) ≡ true → is_reached design (called number) ≡ true
  reached_called number reached = by (slice_get design.models number) reached where
    by : (found : Option Model) → is_reached_model design found ≡ true → is_reached design (name_if_any found) ≡ true
    by None reached = absurd (true≢false (sym reached))
    by (Some model) reached = reached

  place_of_called : (number : ℕ) → number < length design.models → place_in_file design (called number) ≡ number
  place_of_called number inside =
      let model = at_within design.models number inside in
      ap (λ (m : Option Model). place_in_file design (name_if_any m)) model.1 ∙ place_of_model design number model.0 model.1

  module _ (targets : Targets) (are : AreTargets design targets) (circle : List ℕ) (is_circle : IsNumberCircle (graph_of_models design targets) circle) where
    pub circle_within : (number : ℕ) → is_among circle number ≡ true → number < length design.models
    circle_within number among = (search_within design targets are).below number (is_circle.counted number among)

    names_long : length (numbered_names design circle) ≡ length circle
    names_long = length-map circle called

    name_at : (i : ℕ) (name : Word) → i < length circle → get_or (numbered_names design circle) i name ≡ called (get_or circle i 0)
    name_at i name inside = get_or-map called circle i 0 name inside

    place_at : (i : ℕ) (name : Word) → i < length circle → place_in_file design (get_or (numbered_names design circle) i name) ≡ get_or circle i 0
    place_at i name inside = ap (place_in_file design) (name_at i name inside) ∙ place_of_called (get_or circle i 0) (circle_within (get_or circle i 0) (at_among circle i 0 inside))

    placed_pair : (number next : ℕ) → Reads (graph_of_models design targets) number next → model_places (model_named design.models (called number)) (called next) ≡ true
    placed_pair number next places =
        let is = placed design targets are number places.0 next places.1 in
        ap (λ (w : Word). model_places (model_named design.models (called number)) w) (ap name_if_any is.next_at)
        ∙ ap (λ (w : Word). model_places (model_named design.models w) is.next.name) (ap name_if_any is.at)
        ∙ ap (λ (m : Option Model). model_places m is.next.name) (named_at design number is.model is.at) ∙ is.places

    pub is_circle_of_names : BeginsWithLeast circle → IsModelCircle design (numbered_names design circle)
    is_circle_of_names least = record {
      some = omega (arith, names_long, is_circle.some);
      reached = λ i name inside.
          let here : i < length circle = omega (arith, names_long, inside) in
          ap (is_reached design) (name_at i name here)
          ∙ reached_called (get_or circle i 0) (is_circle.counted (get_or circle i 0) (at_among circle i 0 here));
      distinct = names_apart circle is_circle.once circle_within;
      placed = subst (λ (l : List Word). AllZip (λ name next. model_places (model_named design.models name) next ≡ true) (numbered_names design circle) l) (map_turned called circle)
          (AllZip-maps (Reads (graph_of_models design targets)) (λ name next. model_places (model_named design.models name) next ≡ true) called circle (turned circle) placed_pair is_circle.each);
      earliest = λ i name inside.
          let here : i < length circle = omega (arith, names_long, inside) in
          omega (arith, place_at 0 name is_circle.some, place_at i name here, least i here);
    }
